-- The verdict on the sorted entries is that on the entries of the proof.
use Rattle.std.proofs.Common.{◌≡◌, ◌-◌, ◌∙◌, ℕ, List, ap, inr, map, option_map, sym}
use Rattle.std.proofs.lemmas.Result.{err_from_is_err_and}
use Rattle.std.specs.List.Sorted.{IsPermutation}
use Rattle.sha2.specs.Sha256.{sha256}
use Rattle.tlog.specs.Rfc9162.{leaf_hash}
use Rattle.tlog_multiproof.specs.Entries.{entries_refusal}
use Rattle.tlog_text.specs.InPlace.{in_place}
use Rattle.tlog_text.specs.Texts.{EntryFields}
use Rattle.fohlazu_commands.specs.Errors.{entries_error}
use Rattle.fohlazu_commands.specs.Inner.{ArePlaces, index_of, leaf_at}
use Rattle.fohlazu_commands.proofs.SortedFacts.{sorted_refusal}
use Rattle.fohlazu_commands.proofs.verify.check_proof.Goals as goal

same : (size : ℕ) (text shown : List ℕ) (entries : List EntryFields) (sorted : List (ℕ × ℕ))
    (digests sent : List (List ℕ)) (root : List ℕ) → shown ≡ text →
    (places : List (ℕ × ℕ)) × ArePlaces text entries places × IsPermutation places sorted → sent ≡ digests →
    entries_refusal sha256 size (map index_of sorted) (map (leaf_at shown) sorted) sent root
    ≡ entries_refusal sha256 size (map (λ (e : EntryFields). e.number - 1) entries)
    (map (λ (e : EntryFields). leaf_hash sha256 e.bytes) entries) digests root
same size text shown entries sorted digests sent root here (places, are, moved) is =
    ap (λ t. entries_refusal sha256 size (map index_of sorted) (map (leaf_at t) sorted) sent root) here
    ∙ ap (λ ds. entries_refusal sha256 size (map index_of sorted) (map (leaf_at text) sorted) ds root) is
    ∙ sorted_refusal size text entries places sorted digests root are moved

pub returns-in_err-verify_ascending : goal.returns-in_err-verify_ascending
returns-in_err-verify_ascending c =
    let left = err_from_is_err_and c.from_residual-in_err-verify_ascending.result
    c.from_residual-in_err-verify_ascending.ensures.1 in
    let sorted = c.in_ok-sorted.sorted in
    let p = c.args.proof.now in
    let told = same c.args.checkpoint.now.size p.text.now sorted.text.now (in_place p).entries sorted.places.items
    p.digests.items c.deref.result.now c.args.checkpoint.now.root c.in_ok-sorted.ensures.text
    c.in_ok-sorted.ensures.places c.deref.ensures.value in
    rw (left.1, left.2) (inr (ap (option_map entries_error) (sym told ∙ c.in_err-verify_ascending.ensures)))

pub returns : goal.returns
returns c =
    let sorted = c.in_ok-sorted.sorted in
    let p = c.args.proof.now in
    let told = same c.args.checkpoint.now.size p.text.now sorted.text.now (in_place p).entries sorted.places.items
    p.digests.items c.deref.result.now c.args.checkpoint.now.root c.in_ok-sorted.ensures.text
    c.in_ok-sorted.ensures.places c.deref.ensures.value in
    ap (option_map entries_error) (sym told ∙ c.in_ok-verify_ascending.ensures)
