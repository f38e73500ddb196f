-- The derived test, case by case.
use Rattle.std.proofs.Common.{rules, ◌≡◌, ◌↔◌, IsTrue, Bool, ◌&&◌}
use Rattle.std.specs.Cmp.Lexicographic.{pointwise_decides}
use Rattle.p3_merkle_core.specs.Refusals.{IsEquality}
use Rattle.p3_merkle_core.specs.Views.{IsSamePair}
use Rattle.p3_merkle_core.specs.declared.collision.Place.{Place}
use Rattle.p3_merkle_core.specs.declared.collision.InputPair.{InputPair}
use Rattle.p3_merkle_core.specs.declared.collision.InputPair.TheVariants.{Words, Digests}
use Rattle.p3_merkle_core.specs.contracts.collision.InputPairPartialEq.TheImpl.{ghosts}
use Rattle.p3_merkle_core.specs.contracts.collision.PlacePartialEq.TheImpl.{ghosts as place_ghosts}
use Rattle.p3_merkle_core.proofs.laws.input_pair_eq.Given as given
use Rattle.p3_merkle_core.proofs.laws.input_pair_eq.Goals as goal

same_place : (p q : Place) → IsTrue (place_ghosts.eq p q) ↔ (p ≡ q)
same_place p q = search rules

all_three : {A B C : Type 0} (a b c : Bool) → IsTrue a ↔ A → IsTrue b ↔ B → IsTrue c ↔ C →
    IsTrue (a && (b && c)) ↔ (A × B × C)
all_three a b c x y z = search rules

same_pair : (g : given.Over) → IsEquality g.T.PartialEq.eq → IsEquality g.X.PartialEq.eq →
    (a b : InputPair g.row.T.Denot g.row.X.Denot) →
    IsTrue ((ghosts g.row.T g.row.X g.T.PartialEq g.T.PartialEq-dict g.X.PartialEq g.X.PartialEq-dict).eq a b) ↔
    IsSamePair a b
same_pair g words digests (Words p x y) (Words q z w) =
    all_three _ _ _ (same_place p q) (pointwise_decides words x.items z.items) (pointwise_decides words y.items w.items)
same_pair g words digests (Words p x y) (Digests q z w) = search rules
same_pair g words digests (Digests p x y) (Words q z w) = search rules
same_pair g words digests (Digests p x y) (Digests q z w) =
    all_three _ _ _ (same_place p q) (pointwise_decides digests x.items z.items)
    (pointwise_decides digests y.items w.items)

pub returns : goal.returns
returns g c = λ words digests. rw c.eq.ensures (same_pair g words digests c.args.a.now c.args.b.now)
