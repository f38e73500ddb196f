-- What writes of a value and others into slots leave.
use Rattle.std.proofs.lemmas.Grind.{common_steps}
use Rattle.std.proofs.Common.{◌≡◌, ℕ, zero, suc, ◌+◌, get_or-set_same}
use Rattle.std.proofs.Common.{◌-◌, ◌<◌, ◌≤◌, List, [], ◌∷◌, ◌++◌, refl, sym, ◌∙◌, arith, length, get_or, take, drop}
use Rattle.std.proofs.Common.{set, insert, replicate, cond, nat_lt, length-append, length-take, length-drop, length-set}
use Rattle.std.proofs.lemmas.Bool.{le-ltb}
use Rattle.std.proofs.lemmas.List.{drop_more, set_at, length-take-le, drop-replicate, ext_get_or, length-replicate}
use Rattle.std.proofs.lemmas.List.Edits.{get_or-insert_at, get_or-insert_below, get_or-insert_above}
use Rattle.p3_merkle_core.specs.Nodes.{padded}

-- where the element k of the others stands beside a value at p
abbrev pub slot_of : ℕ → ℕ → ℕ
slot_of p k = cond (nat_lt k p) k (k + 1)

module _ {X : Type 0} (first whole : List X) (n : ℕ) (x : X) (in_whole : n < length whole) (in_first : n < length first)
    (is : get_or whole n x ≡ x) where
  one_more : take n whole ++ x ∷ drop (n + 1) first ≡ take (n + 1) whole ++ drop (n + 1) first
  one_more = grind (arith, common_steps)

  -- a write of the next element
  put_next : set (take n whole ++ drop n first) n x ≡ take (n + 1) whole ++ drop (n + 1) first
  put_next = rw (drop_more first n x in_first)
      (set_at (take n whole) (get_or first n x) (drop (n + 1) first) x n (length-take-le n whole (omega arith)))
      ∙ one_more

  -- one that is there already
  there_next : get_or first n x ≡ x → take n whole ++ drop n first ≡ take (n + 1) whole ++ drop (n + 1) first
  there_next e = rw (drop_more first n x in_first, e) one_more

module _ {X : Type 0} (slots others : List X) (p : ℕ) (v : X) (h : p ≤ length others)
    (room : length others < length slots) where
  whole_long : length (insert others p v) ≡ length others + 1
  whole_long = simp (length-append, length-take, length-drop) (omega arith)

  -- the value is there from the start
  at_value : (n : ℕ) → n ≡ p → take n (insert others p v) ++ drop n (set slots p v)
      ≡ take (n + 1) (insert others p v) ++ drop (n + 1) (set slots p v)
  at_value n e =
      rw e (there_next (set slots p v) (insert others p v) p v (omega (arith, whole_long))
      (omega (arith, length-set slots p v)) (get_or-insert_at others p v v h)
      (get_or-set_same slots p v v (omega arith)))

  -- one more of those before the value
  pub put_before : (k : ℕ) (x : X) → k < length others → x ≡ get_or others k x → k < p →
      set (take (slot_of p k) (insert others p v) ++ drop (slot_of p k) (set slots p v)) k x
      ≡ take (slot_of p (k + 1)) (insert others p v) ++ drop (slot_of p (k + 1)) (set slots p v)
  put_before k x below is t =
      grind (arith, common_steps, length-set, get_or-insert_below, put_next, whole_long, at_value)

  -- one more of those after it
  pub put_behind : (k : ℕ) (x : X) → k < length others → x ≡ get_or others k x → p ≤ k →
      set (take (slot_of p k) (insert others p v) ++ drop (slot_of p k) (set slots p v)) (k + 1) x
      ≡ take (slot_of p (k + 1)) (insert others p v) ++ drop (slot_of p (k + 1)) (set slots p v)
  put_behind k x below is f = grind (arith, common_steps, length-set, le-ltb, get_or-insert_above, put_next, whole_long)

  -- and then all are there
  pub put_all : take (slot_of p (length others)) (insert others p v) ++ drop (slot_of p (length others)) (set slots p v)
      ≡ insert others p v ++ drop (length others + 1) slots
  put_all = grind (arith, common_steps)

-- what all writes leave of default digests
pub group_around_is : {X : Type 0} (n : ℕ) (default_element v : X) (others : List X) (p : ℕ) → p ≤ length others →
    insert others p v ++ drop (length others + 1) (replicate n default_element)
    ≡ padded n default_element (insert others p v)
group_around_is n default_element v others p h =
    grind (arith, common_steps, length-append, length-take, length-drop, drop-replicate)

-- after the children every slot has the default digest
default_behind : {X : Type 0} (d : X) (xs : List X) (r k : ℕ) → get_or (xs ++ replicate r d) k d ≡ get_or xs k d
default_behind d [] zero k = refl
default_behind d [] (suc r) zero = refl
default_behind d [] (suc r) (suc k) = default_behind d [] r k
default_behind d (x ∷ xs) r zero = refl
default_behind d (x ∷ xs) r (suc k) = default_behind d xs r k

-- a group that is made slot by slot: children, then default digests
pub slots_made : {X : Type 0} (n : ℕ) (d : X) (xs ys : List X) → length xs ≤ n → length ys ≡ n →
    ((k : ℕ) → k < n → get_or ys k d ≡ get_or xs k d) → ys ≡ padded n d xs
slots_made n d xs ys few long each =
    let whole : length (padded n d xs) ≡ n = rw (length-append, length-replicate) (omega arith) in
    ext_get_or d ys (padded n d xs) (long ∙ sym whole)
    (λ k below. each k (omega arith) ∙ sym (default_behind d xs (n - length xs) k))
