-- The verifiers' walks: the new root of one of consistency is the root of one of inclusion.
use Rattle.std.proofs.Common.{◌≡◌, ℕ, suc, ◌+◌, ◌/◌, ◌%◌, ◌^◌, ◌<◌, ◌≤◌, refl, sym, ap, ◌∙◌, arith, inl, inr, List, []}
use Rattle.std.proofs.{Common.◌∷◌, Common.◌++◌}
use Rattle.std.proofs.Common.{length, Some, None}
use Rattle.std.proofs.lemmas.Bool.{cases_Bool}
use Rattle.std.proofs.lemmas.Bool.Decides.{eqb_tells}
use Rattle.std.specs.{Prelude.◌⊎◌, Prelude.Option, Prelude.option_map}
use Rattle.tlog.specs.Rfc9162.{Hash, consistency_walk, inclusion_walk, is_left, node_hash, path}
use Rattle.tlog.proofs.Halves.{skip_end, step_even, step_odd}
use Rattle.tlog.proofs.Layers.{above, itself, path-above, sibling}

-- n is i + i, or one more
pub parity : (n : ℕ) → ((i : ℕ) × (n ≡ i + i)) ⊎ ((i : ℕ) × (n ≡ suc (i + i)))
parity n = elim (eqb_tells (n % 2) 0) [
  | inl (t, e) ↦ inl (n / 2, omega arith)
  | inr (f, e) ↦ inr (n / 2, omega arith)
]

pub path_above : {X : Type 0} (hash : Hash) (leaf : X → List ℕ) (m : ℕ) (L : List X) → m < length L →
    path hash leaf m L ≡ sibling leaf m L ++ path hash itself (m / 2) (above hash leaf L)
path_above hash leaf m L h = path-above (length L) _ hash leaf m L h (omega arith) (omega arith)

-- an end without the old root
abbrev new_end : ℕ × List ℕ × List ℕ → ℕ × List ℕ
new_end (sn, fr, sr) = (sn, sr)

walks_agree : (hash : Hash) (digests : List (List ℕ)) (fn sn : ℕ) (fr sr : List ℕ) →
    inclusion_walk hash digests fn sn sr ≡ option_map new_end (consistency_walk hash digests fn sn fr sr)
unfolding consistency_walk inclusion_walk
walks_agree hash [] fn sn fr sr = refl
walks_agree hash (c ∷ digests) fn sn fr sr = elim (eqb_tells sn 0) [
  | inl (t, z) ↦ rw (t, inclusion_walk, consistency_walk)
  | inr (f, z) ↦ elim (cases_Bool (is_left fn sn)) [
    | inl l ↦
        rw (f, inclusion_walk, consistency_walk, l, inclusion_walk, consistency_walk)
        (walks_agree hash digests _ _ _ _)
    | inr l ↦
        rw (f, inclusion_walk, consistency_walk, l, inclusion_walk, consistency_walk)
        (walks_agree hash digests _ _ _ _)
  ]
]

module _ (hash : Hash) (digests : List (List ℕ)) (fn sn : ℕ) (fr sr : List ℕ) where
  pub as_inclusion : (s : ℕ) (a b : List ℕ) → consistency_walk hash digests fn sn fr sr ≡ Some (s, a, b) →
      inclusion_walk hash digests fn sn sr ≡ Some (s, b)
  as_inclusion s a b h = walks_agree hash digests fn sn fr sr ∙ rw h

  old_root : (x : Option (ℕ × List ℕ × List ℕ)) (b : List ℕ) → option_map new_end x ≡ Some (0, b) →
      (a : List ℕ) × (x ≡ Some (0, a, b))
  old_root None b h = absurd cc
  old_root (Some (s, a, w)) b h =
      let e : ◌≡◌ {A = ℕ × List ℕ} (s, w) (0, b) = cc in (a, (λ i. Some ((e i).0, a, (e i).1)))

  -- a walk of inclusion that ends, as one of consistency
  pub as_consistency : (b : List ℕ) → inclusion_walk hash digests fn sn sr ≡ Some (0, b) →
      (a : List ℕ) × (consistency_walk hash digests fn sn fr sr ≡ Some (0, a, b))
  as_consistency b h = old_root _ b (sym (walks_agree hash digests fn sn fr sr) ∙ h)

-- ---- a step of a walk of inclusion, by that of consistency

module _ (hash : Hash) (c : List ℕ) (digests : List (List ℕ)) (fn sn : ℕ) (r : List ℕ) where
  pub inclusion_odd : fn % 2 ≡ 1 → 0 < sn → fn ≤ 2 ^ 62 → inclusion_walk hash (c ∷ digests) fn sn r
      ≡ inclusion_walk hash digests (fn / 2) (sn / 2) (node_hash hash c r)
  inclusion_odd odd some small =
      walks_agree hash (c ∷ digests) fn sn r r
      ∙ ap (option_map new_end) (step_odd hash c digests fn sn r r odd some small)
      ∙ sym (walks_agree hash digests (fn / 2) (sn / 2) (node_hash hash c r) (node_hash hash c r))

  pub inclusion_even : fn % 2 ≡ 0 → fn < sn → inclusion_walk hash (c ∷ digests) fn sn r
      ≡ inclusion_walk hash digests (fn / 2) (sn / 2) (node_hash hash r c)
  inclusion_even even within =
      walks_agree hash (c ∷ digests) fn sn r r
      ∙ ap (option_map new_end) (step_even hash c digests fn sn r r even within)
      ∙ sym (walks_agree hash digests (fn / 2) (sn / 2) r (node_hash hash r c))

-- at an only child
pub inclusion_skip : (hash : Hash) (digests : List (List ℕ)) (n : ℕ) (r end : List ℕ) → n % 2 ≡ 0 → n ≤ 2 ^ 62 →
    inclusion_walk hash digests (n / 2) (n / 2) r ≡ Some (0, end) → inclusion_walk hash digests n n r ≡ Some (0, end)
inclusion_skip hash digests n r end even small h =
    let up = as_consistency hash digests (n / 2) (n / 2) r r end h in
    as_inclusion hash digests n n r r 0 up.0 end ((skip_end hash r r digests n up.0 end even small).1 up.1)
