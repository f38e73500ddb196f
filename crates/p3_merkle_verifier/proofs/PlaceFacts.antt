-- The first place, and the first pair of places, at which there is an answer.
use Rattle.std.proofs.Common.{◌≡◌, ◌∙◌, ℕ, zero, suc, ◌+◌, ◌<◌, ◌≤◌, List, [], ◌∷◌, refl, ap, sym, arith, inl, inr}
use Rattle.std.proofs.Common.{Option, Some, None}
use Rattle.std.proofs.lemmas.Bool.{cases_eq}
use Rattle.std.specs.List.{range_with_len}
use Rattle.std.specs.Option.{option_or, option_map}
use Rattle.p3_merkle_core.specs.Extraction.{first_pair}
use Rattle.p3_answers.specs.Answers.{first_of}
use Rattle.p3_merkle_core.proofs.Pruned.Unrefused.{all_in_range}
use Rattle.p3_merkle_verifier.specs.Inner.QueryPairs.{first_place}

-- an answer, and none before it
first_there : {E : Type 0} (h : ℕ → Option E) (a n i : ℕ) (y : E) → a ≤ i → i < a + n →
    ((k : ℕ) → a ≤ k → k < i → h k ≡ None) → h i ≡ Some y → first_of h (range_with_len a n) ≡ Some y
first_there h a zero i y low high none is = absurd (omega arith)
first_there {E} h a (suc n) i y low high none is =
    let rest = first_of h (range_with_len (a + 1) n) in
    elim (cases_eq a i) [
      | inl same ↦ ap (λ (o : Option E). option_or o rest) (ap h same ∙ is)
      | inr ne ↦ ap (λ (o : Option E). option_or o rest) (none a (omega arith) (omega arith))
          ∙ first_there h (a + 1) n i y (omega arith) (omega arith) (λ k from below. none k (omega arith) below) is
    ]

-- the same answers
of_alike : {E : Type 0} (h g : ℕ → Option E) (a n : ℕ) → ((i : ℕ) → a ≤ i → i < a + n → h i ≡ g i) →
    first_of h (range_with_len a n) ≡ first_of g (range_with_len a n)
of_alike h g a zero e = refl
of_alike {E} h g a (suc n) e =
    ap (λ (o : Option E). option_or o (first_of h (range_with_len (a + 1) n))) (e a (omega arith) (omega arith))
    ∙ ap (λ (o : Option E). option_or (g a) o) (of_alike h g (a + 1) n (λ i low high. e i (omega arith) (omega arith)))

-- ---- places

-- one place
abbrev place_at : {X : Type 0} → (ℕ → Option X) → ℕ → Option (ℕ × X)
place_at d b = option_map (λ x. (b, x)) (d b)

pub place_found : {X : Type 0} (d : ℕ → Option X) (n i : ℕ) {x : X} → i < n → ((k : ℕ) → k < i → d k ≡ None) →
    Some x ≡ d i → Some (i, x) ≡ first_place d n
place_found d n i h none is =
    sym (first_there (place_at d) 0 n i _ (omega arith) (omega arith)
    (λ k low high. ap (option_map (λ x. (k, x))) (none k high)) (ap (option_map (λ x. (i, x))) (sym is)))

pub no_place : {X : Type 0} (d : ℕ → Option X) (n : ℕ) → ((k : ℕ) → k < n → d k ≡ None) → None ≡ first_place d n
no_place d n none =
    sym (all_in_range (place_at d) 0 n (λ k low high. ap (option_map (λ x. (k, x))) (none k (omega arith))))

-- ---- pairs of places

-- a place after a first place
abbrev under : {X : Type 0} → ℕ → ℕ × X → ℕ × ℕ × X
under a (b, x) = (a, b, x)

-- one pair of places
abbrev pair_at : {X : Type 0} → (ℕ → Option X) → ℕ → ℕ → Option (ℕ × ℕ × X)
pair_at d a b = option_map (λ x. (a, b, x)) (d b)

beside : {X : Type 0} (a b : ℕ) (o : Option X) (pairs : Option (ℕ × ℕ × X)) (places : Option (ℕ × X)) → pairs
    ≡ option_map (under a) places →
    option_or (option_map {U = ℕ × ℕ × X} (λ x. (a, b, x)) o) pairs
    ≡ option_map (under a) (option_or (option_map {U = ℕ × X} (λ x. (b, x)) o) places)
beside a b None pairs places e = e
beside a b (Some x) pairs places e = refl

-- the pairs of one first place
row_is : {X : Type 0} (d : ℕ → Option X) (a : ℕ) (bs : List ℕ) → first_of (pair_at d a) bs
    ≡ option_map (under a) (first_of (place_at d) bs)
row_is d a [] = refl
row_is d a (b ∷ bs) = beside a b (d b) (first_of (pair_at d a) bs) (first_of (place_at d) bs) (row_is d a bs)

pub pair_found : {X : Type 0} (d : ℕ → ℕ → Option X) (n m a : ℕ) {b : ℕ} {x : X} → a < n →
    ((k : ℕ) → k < a → first_place (d k) m ≡ None) → Some (b, x) ≡ first_place (d a) m →
    Some (a, b, x) ≡ first_pair d n m
pair_found d n m a h none is =
    sym (first_there (λ k. first_of (pair_at (d k) k) (range_with_len 0 m)) 0 n a _ (omega arith) (omega arith)
    (λ k low high. row_is (d k) k (range_with_len 0 m) ∙ ap (option_map (under k)) (none k high))
    (row_is (d a) a (range_with_len 0 m) ∙ ap (option_map (under a)) (sym is)))

pub no_pair : {X : Type 0} (d : ℕ → ℕ → Option X) (n m : ℕ) → ((k : ℕ) → k < n → first_place (d k) m ≡ None) →
    None ≡ first_pair d n m
no_pair d n m none =
    sym (all_in_range (λ k. first_of (pair_at (d k) k) (range_with_len 0 m)) 0 n
    (λ k low high. row_is (d k) k (range_with_len 0 m) ∙ ap (option_map (under k)) (none k (omega arith))))

pub pairs_alike : {X : Type 0} (d e : ℕ → ℕ → Option X) (n m : ℕ) → ((a b : ℕ) → a < n → b < m → d a b ≡ e a b) →
    first_pair d n m ≡ first_pair e n m
pairs_alike {X} d e n m same =
    of_alike (λ a. first_of (pair_at (d a) a) (range_with_len 0 m))
    (λ a. first_of (pair_at (e a) a) (range_with_len 0 m)) 0 n
    (λ a low high. of_alike (pair_at (d a) a) (pair_at (e a) a) 0 m
    (λ b from below. ap (option_map {U = ℕ × ℕ × X} (λ x. (a, b, x))) (same a b (omega arith) (omega arith))))
