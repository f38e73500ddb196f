-- The first two slots are written.
use Rattle.std.proofs.Common.{◌≡◌, ℕ, zero, suc, ◌-◌, ◌≤◌, [], ◌∷◌, set, replicate, ap, arith}
use Rattle.p3_merkle_core.specs.Nodes.{padded}
use Rattle.p3_merkle_core.proofs.group.pair_group.Goals as goal

pair_put : {X : Type 0} (n : ℕ) (d l r : X) → 2 ≤ n → set (set (replicate n d) 0 l) 1 r ≡ padded n d (l ∷ r ∷ [])
pair_put zero d l r pair = absurd (omega (arith, pair))
pair_put (suc zero) d l r pair = absurd (omega (arith, pair))
pair_put (suc (suc n)) d l r pair =
    let rest : n ≡ suc (suc n) - 2 = omega arith in ap (λ k. l ∷ r ∷ replicate k d) rest

pub returns : goal.returns
returns g c = pair_put g.row.N c.args.default_digest c.args.left c.args.right c.requires
