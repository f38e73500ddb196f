-- Accepted proofs as a log grows: two of consistency one after the other, and the leaf hash of an entry.
use Rattle.std.proofs.Common.{◌≡◌, ◌≢◌, ℕ, ◌-◌, ◌/◌, ◌^◌, ◌<◌, ◌≤◌, refl, sym, ◌∙◌, arith, List, [], ◌∷◌, Some, None}
use Rattle.std.proofs.Common.{true, false}
use Rattle.std.specs.Prelude.{Option, Result, Ok, Err, ◌↔◌}
use Rattle.std.specs.Result.{IfErr, IsErrAnd}
use Rattle.std.specs.Int.{is_power_of_two}
use Rattle.tlog.specs.Climbs.{ProofBeginsAt, climb_end}
use Rattle.tlog.specs.Fixed.{GrowthKeepsLeaf, RootFixesProof}
use Rattle.tlog.specs.Inner.Lifts.{Lifts}
use Rattle.tlog.specs.Rfc9162.{Hash}
use Rattle.tlog.specs.Verdicts.{IsConsistent, IsIncluded, size_limit}
use Rattle.tlog.specs.declared.error.ProofError.{ProofError}
use Rattle.tlog.specs.Composed.{IsReason}
use Rattle.tlog.specs.declared.error.ComposeError.{ComposeError}
use Rattle.tlog.proofs.Consistencies.{bare_unchanged, begins_whole, begun}
use Rattle.tlog.proofs.Climbs.{as_consistency, as_inclusion}
use Rattle.tlog.proofs.Lifts.{bare_end}
use Rattle.tlog.proofs.Sides.{more_nodes}

-- ---- proofs of consistency

module _ {hash : Hash} {old middle new : ℕ} {first second : List (List ℕ)} {old_root middle_root new_root : List ℕ}
    (one : IsConsistent hash old middle first old_root middle_root)
    (two : IsConsistent hash middle new second middle_root new_root) where
  pub from_nothing : old ≡ 0 → IsConsistent hash old new [] old_root new_root
  from_nothing z =
      let e = one.from_nothing z in
      let o = two.ordered in
      record {
        ordered = omega arith;
        from_nothing = λ z. (refl, e.1, λ none. (two.from_nothing (omega arith)).2 none);
        unchanged = λ some same. absurd (omega arith);
        grown = λ some more. absurd (omega arith);
      }

  pub second_alone : 0 < old → first ≡ [] → IsConsistent hash old new second old_root new_root
  second_alone some none = let same = bare_unchanged some none one in rw (same.0, same.1) two

  pub first_alone : 0 < middle → second ≡ [] → IsConsistent hash old new first old_root new_root
  first_alone some none = let same = bare_unchanged some none two in rw (← same.0, ← same.1) one

grown_alone : {hash : Hash} {old new : ℕ} {path : List (List ℕ)} {old_root new_root : List ℕ} {layer node : ℕ}
    {value : List ℕ} {digests : List (List ℕ)} → 0 < old → old < new →
    ProofBeginsAt old path old_root layer node value digests →
    climb_end hash layer node new value digests ≡ Some (0, old_root, new_root) →
    IsConsistent hash old new path old_root new_root
grown_alone some more b ends = record {
  ordered = omega arith;
  from_nothing = λ z. absurd (omega arith);
  unchanged = λ p same. absurd (omega arith);
  grown = λ p l. sym (begun b _ _) ∙ ends;
}

module _ {hash : Hash} {old new : ℕ} {path : List (List ℕ)} {old_root new_root : List ℕ} {layer node : ℕ}
    {value : List ℕ} {digests : List (List ℕ)} (some : 0 < old) (more : old < new)
    (b : ProofBeginsAt old path old_root layer node value digests) where
  -- the old tree is all of the node where the proof begins
  pub composed_all : (out : List (List ℕ)) → old ≤ 2 ^ 62 → is_power_of_two old ≡ true →
      climb_end hash layer node new value out ≡ Some (0, old_root, new_root) →
      IsConsistent hash old new out old_root new_root
  composed_all [] small power ends =
      let whole = begins_whole b some small in
      bare_end hash layer node new value [] old_root new_root
      (more_nodes layer node old new (omega (arith, whole)) more) refl ends
  composed_all (c ∷ out) small power ends =
      let from : ProofBeginsAt old (c ∷ out) old_root layer node value (c ∷ out) = record {
        some = omega arith;
        at_layer = b.at_layer;
        at_node = b.at_node;
        all = λ e. ((b.all e).0, refl);
        part = λ e. let no = sym power ∙ e in absurd cc;
      } in
      grown_alone some more from ends

  pub composed_part : (out : List (List ℕ)) → is_power_of_two old ≡ false →
      climb_end hash layer node new value out ≡ Some (0, old_root, new_root) →
      IsConsistent hash old new (value ∷ out) old_root new_root
  composed_part out power ends =
      let from : ProofBeginsAt old (value ∷ out) old_root layer node value out = record {
        some = omega arith;
        at_layer = b.at_layer;
        at_node = b.at_node;
        all = λ e. let no = sym power ∙ e in absurd cc;
        part = λ e. refl;
      } in
      grown_alone some more from ends

pub reason : (hash : Hash) (first second : Option ProofError) (e : ComposeError) → None ≡ first → None ≡ second →
    IsReason hash None None e → IsReason hash first second e
reason hash first second e one two is = rw (← one, ← two) is

pub if_err : {T E : Type 0} (r : Result T E) (P Q : E → Type 0) → ((e : E) → P e → Q e) → IsErrAnd r P → IfErr r Q
if_err (Ok x) P Q f is = search
if_err (Err e) P Q f is = f e is

-- ---- leaf hashes

module _ {hash : Hash} {index old new : ℕ} {leaf : List ℕ} {path growth : List (List ℕ)} {old_root new_root : List ℕ}
    (is : IsIncluded hash index old leaf path old_root) where
  pub lifted_included : {u edge : ℕ} {start : List ℕ} {out : List (List ℕ)} → old ≤ new →
      Lifts hash old new 0 index leaf path u edge start growth out →
      climb_end hash u edge new start growth ≡ Some (0, old_root, new_root) →
      IsIncluded hash index new leaf out new_root
  lifted_included ordered lifts grows =
      let within = is.within in
      let base : (old - 1) / 2 ^ 0 ≡ old - 1 = omega arith in
      let top : (new - 1) / 2 ^ 0 ≡ new - 1 = omega arith in
      let r = as_consistency hash path index (old - 1) leaf leaf old_root is.ends in
      let up = lifts.lift r.0 old_root new_root (rw base r.1) grows in
      record {
        within = omega arith;
        ends = as_inclusion hash _ index (new - 1) leaf leaf 0 r.0 new_root (rw top at up);
      }

  pub same_included : growth ≡ [] → IsConsistent hash old new growth old_root new_root →
      IsIncluded hash index new leaf path new_root
  same_included none grows =
      let within = is.within in
      let same = bare_unchanged (omega arith) none grows in rw (← same.0, ← same.1) is

-- with different leaf hashes, one of them is not fixed
module _ {hash : Hash} {index old new : ℕ} {old_leaf : List ℕ} {old_path : List (List ℕ)} {new_leaf : List ℕ}
    {new_path growth lifted : List (List ℕ)} {old_root new_root : List ℕ} where
  pub not_kept : new ≤ size_limit → IsIncluded hash index old old_leaf old_path old_root →
      IsIncluded hash index new new_leaf new_path new_root → IsConsistent hash old new growth old_root new_root →
      IsIncluded hash index new old_leaf lifted new_root → old_leaf ≢ new_leaf →
      RootFixesProof hash index new old_leaf lifted new_leaf new_path new_root
      ↔ GrowthKeepsLeaf hash index old new old_leaf old_path new_leaf new_path growth old_root new_root
  not_kept small one two grows up other = (
    λ fixed. absurd (other (fixed small up two).0),
    λ kept. absurd (other (kept small one two grows)),
  )
