-- The neighbours of an index among the leaves of some queries.
use Rattle.std.proofs.Common.{◌≡◌, ◌∙◌, ◌⊎◌, ℕ, ◌-◌, ◌<◌, ◌≤◌, List, get_or, arith, inl, inr, length}
use Rattle.std.proofs.lemmas.Bool.{cases_lt}
use Rattle.std.proofs.lemmas.Grind.{get_or_default_zero}
use Rattle.std.proofs.lemmas.List.Sorted.{searched}
use Rattle.std.specs.Prelude.{min, slice_index, Err}
use Rattle.std.specs.List.Sorted.{IsBinarySearchResult}
use Rattle.std.specs.Ordering.{nat_cmp}
use Rattle.p3_merkle_verifier.specs.Inner.QueryPairs.{query_in, HasLeaves, StandsBetween}
use Rattle.p3_merkle_verifier.specs.declared.pruned_extraction.RestoredQueries.{RestoredQueries}

module _ {T W : Type 0} {queries : RestoredQueries T (List W)} (has : HasLeaves queries) where
  abbrev leaves : List ℕ
  leaves = queries.leaves.indices.items

  abbrev firsts : List ℕ
  firsts = queries.leaves.first_queries.items

  -- a query that is read at a leaf is the leaf's
  read_at : (slot : ℕ) {b : ℕ} → slot < length leaves → b ≡ get_or firsts slot b → b ≡ slice_index firsts slot
  read_at slot {b} inside is = is ∙ get_or_default_zero firsts slot b (omega (arith, has.in_pairs))

  -- and one of the queries
  pub read_inside : (slot : ℕ) {b : ℕ} → slot < length leaves → b ≡ get_or firsts slot b →
      b < length queries.paths.items
  read_inside slot inside is = omega (arith, read_at slot inside is, has.inside slot inside)

  -- it stands between where the leaf does
  stands : (index k slot : ℕ) {b : ℕ} → slot < length leaves → b ≡ get_or firsts slot b →
      ((index ≤ slice_index leaves slot) × (slice_index leaves slot ≤ (query_in queries k).index)) ⊎
      (((query_in queries k).index ≤ slice_index leaves slot) × (slice_index leaves slot ≤ index)) →
      StandsBetween queries index k b
  stands index k slot inside is between =
      let own = has.query_of slot inside in
      rw (read_at slot inside is) (record {
        inside = has.inside slot inside;
        between = elim between [
          | inl up ↦ inl (omega (arith, own, up.0), omega (arith, own, up.1))
          | inr down ↦ inr (omega (arith, own, down.0), omega (arith, own, down.1))
        ];
      })

  -- there is a leaf
  leaf_there : 0 < length queries.paths.items → 0 < length leaves
  leaf_there some = let leaf = has.leaf_of 0 some in omega (arith, leaf.1)

  -- where an index is not found, the leaves below and above the gap are there
  pub low_there : (index slot : ℕ) {low : ℕ} → IsBinarySearchResult (λ y. nat_cmp y index) leaves (Err slot) →
      0 < length queries.paths.items → low ≡ slot - 1 → low < length leaves
  low_there index slot search some is =
      let missed = searched leaves index (Err slot) search has.ascending in omega (arith, missed.0, leaf_there some)

  pub high_there : (slot : ℕ) {high : ℕ} → 0 < length queries.paths.items → high ≡ min slot (length firsts - 1) →
      high < length leaves
  high_there slot some is = omega (arith, has.in_pairs, leaf_there some)

  -- and the query of one of them stands between
  pub missed_between : (index slot : ℕ) {low high b c : ℕ} →
      IsBinarySearchResult (λ y. nat_cmp y index) leaves (Err slot) → low ≡ slot - 1 →
      high ≡ min slot (length firsts - 1) → b ≡ get_or firsts low b → c ≡ get_or firsts high c →
      (k : ℕ) → k < length queries.paths.items → (StandsBetween queries index k b) ⊎ (StandsBetween queries index k c)
  missed_between index slot {low} {high} search is_low is_high is_b is_c k inside =
      let missed = searched leaves index (Err slot) search has.ascending in
      let leaf = has.leaf_of k inside in
      let some = leaf.1 in
      let own = leaf.2 in
      let pairs = has.in_pairs in
      elim (cases_lt leaf.0 slot) [
        | inl before ↦
            let there : low < length leaves = omega (arith, missed.0) in
            let lower = missed.1 low (omega arith) in
            let rises = has.ascending leaf.0 low (omega arith) there in
            inl (stands index k low there is_b (inr (omega (arith, own, rises), omega (arith, lower))))
        | inr after ↦
            let there : high < length leaves = omega (arith, pairs, some) in
            let higher = missed.2 high (omega (arith, pairs, some)) there in
            let rises = has.ascending high leaf.0 (omega arith) some in
            inr (stands index k high there is_c (inl (omega (arith, higher), omega (arith, own, rises))))
      ]
