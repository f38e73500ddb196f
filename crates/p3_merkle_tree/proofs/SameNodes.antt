-- Two batches of one shape with the same authenticated rows have the same nodes up to the cap, and open alike.
use Rattle.std.proofs.Common.{◌≡◌, ◌∙◌, ℕ, zero, suc, ◌+◌, ◌-◌, ◌*◌, ◌/◌, ◌^◌, ◌<◌, ◌≤◌, Bool, true, cond, eqb, nat_lt}
use Rattle.std.proofs.Common.{List, [], ◌∷◌, ap, arith, drop, filter, get_or, inl, inr, length, map, refl, remove}
use Rattle.std.proofs.Common.{subst, sym}
use Rattle.std.proofs.Math.Nat.{div-one}
use Rattle.std.proofs.lemmas.Bool.{and_parts, cases_Bool, cases_lt, eq-eqb, eqb-true, le-leb, le-ltb, lt-ltb, ltb-true}
use Rattle.std.specs.List.{list_all, range_with_len}
use Rattle.std.specs.Prelude.{slice_index}
use Rattle.p3_support.specs.Batches.{greatest, heights_of}
use Rattle.p3_support.specs.declared.matrix.Dimensions.{Dimensions}
use Rattle.p3_merkle_core.specs.Checks.{params}
use Rattle.p3_merkle_core.specs.Geometry.{IsArity, IsLawful, Shape, ancestor, bits_reduced, exponent, halved_index}
use Rattle.p3_merkle_core.specs.Geometry.{has_rows, heights, layer_exponent, layer_of, levels, position_in_group}
use Rattle.p3_merkle_core.specs.Geometry.{raw_len}
use Rattle.p3_merkle_core.specs.Geometry.{step}
use Rattle.p3_merkle_core.specs.Nodes.{Batch, Functions, Matrix, at_layer, compress_padded, dimensions_of, joined_rows}
use Rattle.p3_merkle_core.specs.Nodes.{layers, node, row_digest, shape, with_rows}
use Rattle.p3_merkle_core.specs.Openings.{Opening, level_siblings, siblings_by}
use Rattle.p3_merkle_core.proofs.Checks.Completeness.{IsHonest}
use Rattle.p3_merkle_core.proofs.Checks.OwnNodes.{own_opening_is}
use Rattle.p3_merkle_core.proofs.Checks.PathFacts.{joined_same}
use Rattle.p3_merkle_core.proofs.Shapes.LadderFacts.{row_below}
use Rattle.p3_merkle_core.proofs.Shapes.LeastFacts.{least_bound}
use Rattle.p3_merkle_tree.specs.Binding.{AreCommitments, HaveSameAuthenticated, row_at}
use Rattle.p3_merkle_tree.specs.Inner.IndexBinding.{AgreeAt}
use Rattle.p3_merkle_tree.proofs.BindingFacts.{opened_at}

-- ---- the rows of the matrices of one layer

module _ {T : Type 0} (x j : ℕ) where
  -- the matrices of exponent x
  abbrev picked : List (Matrix T) → List (Matrix T)
  picked ms = filter (λ m. eqb (exponent m.height) x) ms

  -- each of them has row j
  abbrev have_row : List (Matrix T) → Bool
  have_row ms = list_all (λ m. nat_lt j m.height) (picked ms)

  -- two lists of matrices have the same row j of those of exponent x that have one
  abbrev Alike : List (Matrix T) → List (Matrix T) → Type 0
  Alike ms ns =
      (k : ℕ) → k < length (heights_of (dimensions_of ms)) → exponent (get_or (heights_of (dimensions_of ms)) k 0) ≡ x →
      j < get_or (heights_of (dimensions_of ms)) k 0 →
      get_or (map (λ m. m.row j) ms) k [] ≡ get_or (map (λ m. m.row j) ns) k []

  first_height : (m n : Matrix T) (ms ns : List (Matrix T)) → dimensions_of (m ∷ ms) ≡ dimensions_of (n ∷ ns) →
      m.height ≡ n.height
  first_height m n ms ns same = ap (λ (ds : List Dimensions). get_or (heights_of ds) 0 0) same

  other_dimensions : (m n : Matrix T) (ms ns : List (Matrix T)) → dimensions_of (m ∷ ms) ≡ dimensions_of (n ∷ ns) →
      dimensions_of ms ≡ dimensions_of ns
  other_dimensions m n ms ns same = ap (λ (ds : List Dimensions). drop 1 ds) same

  same_tests : (ms ns : List (Matrix T)) → dimensions_of ms ≡ dimensions_of ns → have_row ms ≡ have_row ns
  same_tests [] [] same = refl
  same_tests [] (n ∷ ns) same = absurd cc
  same_tests (m ∷ ms) [] same = absurd cc
  same_tests (m ∷ ms) (n ∷ ns) same =
      let first = first_height m n ms ns same in
      let rest = same_tests ms ns (other_dimensions m n ms ns same) in
      elim (cases_Bool (eqb (exponent m.height) x)) [
        | inl holds ↦ let other = rw first at holds in rw (holds, other, first, rest) refl
        | inr fails ↦ let other = rw first at fails in rw (fails, other) rest
      ]

  same_rows : (ms ns : List (Matrix T)) → dimensions_of ms ≡ dimensions_of ns → Alike ms ns → have_row ms ≡ true →
      joined_rows (picked ms) j ≡ joined_rows (picked ns) j
  same_rows [] [] same alike pass = refl
  same_rows [] (n ∷ ns) same alike pass = absurd cc
  same_rows (m ∷ ms) [] same alike pass = absurd cc
  same_rows (m ∷ ms) (n ∷ ns) same alike pass =
      let first = first_height m n ms ns same in
      let rest = same_rows ms ns (other_dimensions m n ms ns same) (λ k inside. alike (suc k) (omega arith)) in
      elim (cases_Bool (eqb (exponent m.height) x)) [
        | inl holds ↦
            let other = rw first at holds in
            let both = and_parts (nat_lt j m.height) (have_row ms) (rw holds at pass) in
            let row : m.row j ≡ n.row j =
            alike 0 (omega arith) (eqb-true (exponent m.height) x holds) (ltb-true j m.height both.0) in
            rw (holds, other, row, rest both.1) refl
        | inr fails ↦ let other = rw first at fails in rw (fails, other) (rest (rw fails at pass))
      ]

  all_have : (ms : List (Matrix T)) → ((k : ℕ) → k < length (heights_of (dimensions_of ms)) →
      exponent (get_or (heights_of (dimensions_of ms)) k 0) ≡ x → j < get_or (heights_of (dimensions_of ms)) k 0) →
      have_row ms ≡ true
  all_have [] each = refl
  all_have (m ∷ ms) each =
      let rest = all_have ms (λ k inside. each (suc k) (omega arith)) in
      elim (cases_Bool (eqb (exponent m.height) x)) [
        | inl holds ↦ let high = lt-ltb j m.height (each 0 (omega arith) (eqb-true (exponent m.height) x holds)) in
            rw (holds, high) rest
        | inr fails ↦ rw fails rest
      ]

-- ---- nodes

module _ {T W : Type 0} (f : Functions T W) (a b : Batch T) (t : ℕ) (one_shape : shape a ≡ shape b)
    (arity : IsArity a.arity) (lawful : IsLawful (heights (shape a))) (in_tree : t ≤ levels (shape a))
    (same : HaveSameAuthenticated (params f (shape a) t) a b) where
  abbrev one_list : dimensions_of a.matrices ≡ dimensions_of b.matrices
  one_list = ap (λ (s : Shape). s.dimensions) one_shape

  alike : (l j : ℕ) → l ≤ t → Alike (layer_exponent (shape a) l) j a.matrices b.matrices
  alike l j below k inside here high =
      let s = shape a in
      let h = slice_index (heights s) k in
      let first : layer_of s h ≤ l =
      least_bound (λ l. eqb (layer_exponent s l) (exponent h)) (levels s) l
      (eq-eqb (layer_exponent s l) (exponent h) (sym here)) in
      same k inside (le-leb (layer_of s h) t (omega arith)) j high

  -- the matrices of a layer of the second batch
  second_picked : (l : ℕ) → picked (layer_exponent (shape a) l) 0 b.matrices ≡ at_layer b l
  second_picked l =
      ap (λ (s : Shape). filter (λ m. eqb (exponent m.height) (layer_exponent s l)) b.matrices) one_shape

  row_digests : (l j : ℕ) → l ≤ t → row_digest f (at_layer a l) j ≡ row_digest f (at_layer b l) j
  row_digests l j below =
      let x = layer_exponent (shape a) l in
      let tests = same_tests x j a.matrices b.matrices one_list in
      let here : row_digest f (picked x j a.matrices) j ≡ row_digest f (picked x j b.matrices) j =
      elim (cases_Bool (have_row x j a.matrices)) [
        | inl holds ↦ let other = sym tests ∙ holds in
            let rows = same_rows x j a.matrices b.matrices one_list (alike l j below) holds in
            rw (holds, other) (ap f.hash rows)
        | inr fails ↦ let other = sym tests ∙ fails in rw (fails, other) refl
      ] in
      here ∙ ap (λ ms. row_digest f ms j) (second_picked l)

  -- the matrices of the leaves are of the greatest height
  leaves_high : (j : ℕ) → j < greatest (heights (shape a)) →
      have_row (layer_exponent (shape a) 0) j a.matrices ≡ true
  unfolding layer_exponent
  leaves_high j below =
      let hs = heights (shape a) in
      all_have (exponent (greatest hs)) j a.matrices (λ k inside here. let h = get_or hs k 0 in
      let ladder = lawful.on_ladder k 0 inside in
      let none : bits_reduced (greatest hs) h ≡ 0 = omega arith in
      let high : h ≡ (greatest hs - 1) / 1 + 1 = ladder ∙ ap (λ (d : ℕ). (greatest hs - 1) / 2 ^ d + 1) none in
      omega (arith, high, div-one (greatest hs - 1), lawful.some_above_0))

  node_same : (l : ℕ) → l ≤ t → (j : ℕ) → node f a l j ≡ node f b l j
  unfolding node raw_len
  node_same zero below j =
      let s = shape a in
      elim (cases_lt j (greatest (heights s))) [
        | inl inside ↦
            let here = lt-ltb j (greatest (heights s)) inside in
            let there = ap (λ (s : Shape). nat_lt j (greatest (heights s))) (sym one_shape) ∙ here in
            let rows = same_rows (layer_exponent s 0) j a.matrices b.matrices one_list (alike 0 j below)
            (leaves_high j inside) ∙ ap (λ ms. joined_rows ms j) (second_picked 0) in
            rw (here, there) (ap f.hash rows)
        | inr outside ↦
            let here = le-ltb j (greatest (heights s)) outside in
            let there = ap (λ (s : Shape). nat_lt j (greatest (heights s))) (sym one_shape) ∙ here in
            rw (here, there) refl
      ]
  node_same (suc l) below j =
      let child = λ (n : ℕ). node_same l (omega arith) n in
      let rows = row_digests (suc l) j below in
      λ k. let s = one_shape k in
      cond (nat_lt j (raw_len s (suc l)))
      (with_rows f s.arity (has_rows s (suc l))
      (compress_padded f s.arity (map (λ i. child (step s l * j + i) k) (range_with_len 0 (step s l)))) (rows k))
      f.default_digest

  siblings_same : (i : ℕ) → siblings_by (node f a) (shape a) t i ≡ siblings_by (node f b) (shape b) t i
  siblings_same i =
      let s = shape a in
      joined_same (level_siblings (node f a) s i) (level_siblings (node f b) s i) t
      (λ l below. λ k. remove (map (λ n. node_same l (omega arith) (step s l * ancestor s (suc l) i + n) k)
      (range_with_len 0 (step s l))) (position_in_group s l i))
      ∙ ap (λ (s : Shape). siblings_by (node f b) s t i) one_shape

  -- so trees over both open alike
  pub opened_alike : (i : ℕ) → i < greatest (heights (shape a)) →
      AgreeAt (params f (shape a) t) a (layers f a) b (layers f b) i
  opened_alike i below =
      let s = shape a in
      let first : IsHonest a t i =
      record { well_shaped = arity; lawful = lawful; below = below; in_tree = in_tree } in
      let second : IsHonest b t i =
      record {
        well_shaped = subst (λ (s : Shape). IsArity s.arity) one_shape arity;
        lawful = subst (λ (s : Shape). IsLawful (heights s)) one_shape lawful;
        below = subst (λ (s : Shape). i < greatest (heights s)) one_shape below;
        in_tree = subst (λ (s : Shape). t ≤ levels s) one_shape in_tree;
      } in
      record {
        siblings = ap (λ (o : Opening T W). o.siblings) (own_opening_is f a t i first) ∙ siblings_same i
            ∙ sym (ap (λ (o : Opening T W). o.siblings) (own_opening_is f b t i second));
        rows = λ k inside there.
            let j = halved_index (greatest (heights s)) (slice_index (heights s) k) i in
            let high : j < slice_index (heights s) k =
            row_below s (slice_index (heights s) k) i (lawful.on_ladder k 0 inside) below in
            opened_at a k i ∙ same k inside there j high
            ∙ ap (λ (s : Shape). row_at b k (halved_index (greatest (heights s)) (slice_index (heights s) k) i))
            one_shape
            ∙ sym (opened_at b k i);
      }

  -- and so do two commitments
  pub committed_alike : (cap : List (List W)) (stored others : List (List (List W))) →
      AreCommitments (params f (shape a) t) cap a stored b others → (i : ℕ) → i < greatest (heights (shape a)) →
      AgreeAt (params f (shape a) t) a stored b others i
  committed_alike cap stored others both i below =
      subst (λ (z : List (List (List W)) × List (List (List W))). AgreeAt (params f (shape a) t) a z.0 b z.1 i)
      (λ k. (sym both.first.own_layers k, sym both.second.own_layers k)) (opened_alike i below)
