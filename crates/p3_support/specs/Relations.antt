-- Relations of values.

-- a relation is an equivalence
pub record IsEquivalence {A : Type 0} (alike : A → A → Type 0) : Type 0 where
  pub reflexive : (x : A) → alike x x
  pub symmetric : (x y : A) → alike x y → alike y x
  pub transitive : (x y z : A) → alike x y → alike y z → alike x z
