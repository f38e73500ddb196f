-- Values made from the words of a stream: one more, and all.
use Rattle.std.proofs.Common.{◌≡◌, ℕ, zero, suc, ◌+◌, ◌*◌, ◌/◌, ◌<◌, ◌≤◌, ◌∷◌, ◌++◌, refl, sym, ap, ◌∙◌, arith}
use Rattle.std.proofs.Common.{append_assoc, map}
use Rattle.std.proofs.Math.Nat.{mul-div_cancel}
use Rattle.std.specs.Prelude.{Option, Some}
use Rattle.std.specs.Option.{SomeIff}
use Rattle.std.specs.declared.vec.Vec.{Vec}
use Rattle.rand_core.specs.Stream.{Stream, next_u64}
use Rattle.p3_support.specs.Salts.{after_words, salts}
use Rattle.p3_support.specs.Inner.Drawn.{AreDrawn}

-- the values of some words and of those after them
salts_joined : {A : Type 0} (of_word : ℕ → A) (a b : ℕ) (s : Stream) →
    salts of_word (a + b) s ≡ salts of_word a s ++ salts of_word b (after_words a s)
salts_joined of_word zero b s = let none : 0 + b ≡ b = omega arith in rw none refl
salts_joined of_word (suc a) b s =
    let count : suc a + b ≡ suc (a + b) = omega arith in
    rw count (ap (λ xs. of_word (next_u64 s).0 ∷ xs) (salts_joined of_word a b (next_u64 s).1))

-- and the stream after them
after_joined : (a b : ℕ) (s : Stream) → after_words (a + b) s ≡ after_words b (after_words a s)
after_joined zero b s = let none : 0 + b ≡ b = omega arith in rw none refl
after_joined (suc a) b s =
    let count : suc a + b ≡ suc (a + b) = omega arith in rw count (after_joined a b (next_u64 s).1)

-- values are made from the words themselves
pub salts_mapped : {A : Type 0} (of_word : ℕ → A) (n : ℕ) (s : Stream) →
    map of_word (salts (λ w. w) n s) ≡ salts of_word n s
salts_mapped of_word zero s = refl
salts_mapped of_word (suc n) s =
    ap (λ xs. of_word (next_u64 s).0 ∷ xs) (salts_mapped of_word n (next_u64 s).1)

-- the values of some more words
pub drawn_more : {T A : Type 0} {of_word : ℕ → T} {m k n : ℕ} {old xs ys : Vec T A} {start s t : Stream}
    → AreDrawn of_word m old xs start s → AreDrawn of_word k xs ys s t → n ≡ m + k → AreDrawn of_word n old ys start t
drawn_more {of_word = of_word} {m = m} {k = k} {start = start} so_far more count = record {
  items =
      let joined : salts of_word (m + k) start
      ≡ salts of_word m start ++ salts of_word k (after_words m start) = salts_joined of_word m k start in
      rw (count, more.items, so_far.items, so_far.rest, append_assoc, joined) refl;
  len = omega (arith, so_far.len, more.len);
  capacity = more.capacity ∙ so_far.capacity;
  rest =
      let joined : after_words (m + k) start ≡ after_words k (after_words m start) = after_joined m k start in
      rw (count, more.rest, so_far.rest, joined) refl;
}

-- a product that was made is below its limit
pub product_made : (r : Option ℕ) (product limit n : ℕ) → SomeIff r (product < limit) product → r ≡ Some n →
    (product < limit) × (n ≡ product)
product_made r product limit n made some = rw some at made

-- as many rows of some columns are as many values
pub same_rows : (a b columns : ℕ) → 1 ≤ columns → a * columns ≡ b * columns → a ≡ b
same_rows a b columns some same =
    sym (mul-div_cancel a (omega (arith, some))) ∙ ap (λ n. n / columns) same ∙ mul-div_cancel b (omega (arith, some))
