-- Each equation of RFC 9162 is a lemma on the definitions.
use Rattle.std.proofs.Common.{◌≡◌, suc, ◌*◌, ◌^◌, refl, arith}
use Rattle.std.proofs.Math.Nat.{pow-succ'}
use Rattle.std.specs.Prelude.{true, false}
use Rattle.tlog.specs.Rfc9162.{leaf_hash, mth_within, path_within, split}
use Rattle.tlog.proofs.Splits.{split_is}
use Rattle.tlog.proofs.Honest.{path_left, path_right, root_more, sub_left, sub_right, sub_whole}
use Rattle.tlog.proofs.laws.as_written.Goals as goal

pub returns-clause-split : goal.returns-clause-split
returns-clause-split c = λ n more.
    let s = split_is n more in
    let j = s.power.0 in
    let e : split n ≡ 2 ^ j = s.power.1 in
    let b = s.below in let h = s.half in
    let twice : 2 ^ suc j ≡ 2 * 2 ^ j = pow-succ' 2 j in
    (j, e, omega arith, omega arith)

pub returns-clause-root : goal.returns-clause-root
unfolding mth_within
returns-clause-root c = record {
  none = λ hash. refl;
  one = λ hash d. refl;
  more = λ hash D more. root_more hash (leaf_hash hash) D more;
}

pub returns-clause-path : goal.returns-clause-path
unfolding path_within
returns-clause-path c = record {
  one = λ hash d. refl;
  left = λ hash m D more h. path_left hash (leaf_hash hash) m D more h;
  right = λ hash m D more h within. path_right hash (leaf_hash hash) m D more h within;
}

pub returns-clause-subproof : goal.returns-clause-subproof
returns-clause-subproof c = record {
  known = λ hash D some. sub_whole hash (leaf_hash hash) D true some;
  whole = λ hash D some. sub_whole hash (leaf_hash hash) D false some;
  left = λ hash m D b some within h. sub_left hash (leaf_hash hash) m D b some within h;
  right = λ hash m D b within h. sub_right hash (leaf_hash hash) m D b within h;
}
