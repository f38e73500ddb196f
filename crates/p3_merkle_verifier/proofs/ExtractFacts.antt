-- Which refusal of two an extraction answers.
use Rattle.std.proofs.Common.{◌≡◌, Option, None, Some}
use Rattle.std.specs.Prelude.{Ok, Err}
use Rattle.std.specs.Option.{option_or}
use Rattle.p3_answers.specs.Answers.{ok_unless}

-- the first refusal comes before the second
pub first_refused : {E : Type 0} (x y : Option E) (e : E) → Err e ≡ ok_unless x (tt {0}) → option_or x y ≡ Some e
first_refused None y e a = absurd cc
first_refused (Some z) y e a = cc

-- the second is named where there is no first
pub second_refused : {E : Type 0} (x y : Option E) (e : E) → Ok tt ≡ ok_unless x (tt {0}) → Err e
    ≡ ok_unless y (tt {0}) → option_or x y ≡ Some e
second_refused None None e a b = absurd cc
second_refused None (Some z) e a b = cc
second_refused (Some z) y e a b = absurd cc

-- where both are taken, there is none
pub both_taken : {E : Type 0} (x y : Option E) → Ok tt ≡ ok_unless x (tt {0}) → Ok tt ≡ ok_unless y (tt {0}) →
    option_or x y ≡ None
both_taken None None a b = cc
both_taken None (Some z) a b = absurd cc
both_taken (Some z) y a b = absurd cc
