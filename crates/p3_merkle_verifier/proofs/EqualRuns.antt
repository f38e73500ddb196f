-- The answer of `eq` on two iterators that yield lists.
use Rattle.std.proofs.Common.{◌≡◌, ◌∙◌, Bool, true, false, List, [], ◌∷◌, Option, None, Some, ap, sym, subst}
use Rattle.std.specs.Prelude.{◌&&◌, IfSome, MatchOption}
use Rattle.std.specs.Cmp.Lexicographic.{pointwise}
use Rattle.std.specs.Iterator.{AlwaysYields, ComparesItemsByEq, YieldsThen}
use Rattle.std.specs.List.{AllZip}
use Rattle.std.proofs.lemmas.Iterator.{YieldsList}

module _ {S T A B : Type 0} (steps : S → Option A → S → Type 0) (others : T → Option A → T → Type 0) (v : A → B)
    (eq : A → A → Bool) (test : B → B → Bool) (agree : (x y : A) → eq x y ≡ test (v x) (v y)) (r : Bool) where
  -- what the last items say of the answer
  abbrev Last : Option A → Option A → Type 0
  Last o p = MatchOption o (MatchOption p (r ≡ true) (λ _. r ≡ false))
      (λ x. (r ≡ false) × IfSome p (λ y. eq x y ≡ false))

  at_last : (o p : Option A) (xs ys : List B) (s u : S) (t w : T) → AlwaysYields steps v s xs →
      AlwaysYields others v t ys → steps s o u → others t p w → Last o p → r ≡ pointwise test xs ys
  at_last None None (x ∷ xs) ys s u t w e f a b h = absurd (e.0 u a)
  at_last None (Some y) (x ∷ xs) ys s u t w e f a b h = absurd (e.0 u a)
  at_last (Some x) None [] ys s u t w e f a b h = absurd (e x u a)
  at_last (Some x) (Some y) [] ys s u t w e f a b h = absurd (e x u a)
  at_last None None [] (y ∷ ys) s u t w e f a b h = absurd (f.0 w b)
  at_last None (Some y) [] [] s u t w e f a b h = absurd (f y w b)
  at_last (Some x) None (z ∷ xs) (y ∷ ys) s u t w e f a b h = absurd (f.0 w b)
  at_last (Some x) (Some y) (z ∷ xs) [] s u t w e f a b h = absurd (f y w b)
  at_last None None [] [] s u t w e f a b h = h
  at_last None (Some y) [] (z ∷ ys) s u t w e f a b h = h
  at_last (Some x) None (z ∷ xs) [] s u t w e f a b h = h.0
  at_last (Some x) (Some y) (x' ∷ xs) (y' ∷ ys) s u t w e f a b h =
      let differ : test x' y' ≡ false =
      (λ i. test (sym (e.1 x u a).0 i) (sym (f.1 y w b).0 i)) ∙ sym (agree x y) ∙ h.1 in
      h.0 ∙ ap (λ same. same && pointwise test xs ys) (sym differ)

  along : (cs bs : List A) (o p : Option A) (xs ys : List B) (s u : S) (t w : T) → AlwaysYields steps v s xs →
      AlwaysYields others v t ys → YieldsThen steps s cs o u → YieldsThen others t bs p w →
      AllZip (λ x y. eq x y ≡ true) cs bs → Last o p → r ≡ pointwise test xs ys
  along [] [] o p xs ys s u t w e f a b z h =
      at_last o p xs ys s u t w e f (subst (λ j. steps j o u) (sym a.1) a.2) (subst (λ j. others j p w) (sym b.1) b.2) h
  along [] (y ∷ bs) o p xs ys s u t w e f a b z h = absurd z
  along (x ∷ cs) [] o p xs ys s u t w e f a b z h = absurd z
  along (x ∷ cs) (y ∷ bs) o p [] ys s u t w e f a b z h = absurd (e x a.1.0 a.1.1)
  along (x ∷ cs) (y ∷ bs) o p (x' ∷ xs) [] s u t w e f a b z h = absurd (f y b.1.0 b.1.1)
  along (x ∷ cs) (y ∷ bs) o p (x' ∷ xs) (y' ∷ ys) s u t w e f a b z h =
      let m = e.1 x a.1.0 a.1.1 in
      let n = f.1 y b.1.0 b.1.1 in
      let same : test x' y' ≡ true = (λ i. test (sym m.0 i) (sym n.0 i)) ∙ sym (agree x y) ∙ z.0 in
      along cs bs o p xs ys a.1.0 u b.1.0 w m.1 n.1 (a.0, a.1.2, a.2) (b.0, b.1.2, b.2) z.1 h
      ∙ ap (λ equal. equal && pointwise test xs ys) (sym same)

-- `eq` of two iterators tests their lists item by item
pub eq_from_yields_List : {S U T A B : Type 0} {steps : S → Option A → S → Type 0}
    {others : T → Option A → T → Type 0} {v : A → B} {s : S} {eq : A → A → Bool} {xs ys : List B}
    (becomes : U → T → Type 0) (other : U) (test : B → B → Bool) (r : Bool) →
    ComparesItemsByEq steps becomes others s other eq r → YieldsList steps v s xs →
    ((it : T) → becomes other it → YieldsList others v it ys) → ((x y : A) → eq x y ≡ test (v x) (v y)) → r
    ≡ pointwise test xs ys
eq_from_yields_List {steps = steps} {others = others} {v = v} {s = s} {eq = eq} {xs = xs} {ys = ys} becomes other test
    r d e f agree =
    along steps others v eq test agree r d.1 d.2 d.3 d.4 xs ys s d.5 d.0 d.6 e.runs (f d.0 d.7).runs d.8 d.9 d.10 d.11
