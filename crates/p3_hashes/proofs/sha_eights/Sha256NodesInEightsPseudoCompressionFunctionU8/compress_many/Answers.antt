-- The bytes of all groups are as many messages of one length, and the message of a group is its digests, one after
-- another.
use Rattle.std.proofs.Common.{◌≡◌, ℕ, ◌*◌, ◌<◌, ◌∙◌, sym, ap, List, length, map, []}
use Rattle.std.proofs.Math.Nat.{mul_assoc, mul_comm}
use Rattle.std.proofs.lemmas.List.{get_or-map, length-map}
use Rattle.std.proofs.lemmas.List.FromFn.{fill_by_all}
use Rattle.std.proofs.lemmas.Simd.{map-map}
use Rattle.std.specs.List.{concat, flat_map, range_with_len}
use Rattle.sha2.specs.Sha256.{sha256}
use Rattle.sha256_eights.specs.Messages.{message}
use Rattle.p3_hashes.proofs.Pieces.{message_of_group}
use Rattle.p3_hashes.proofs.sha_eights.Sha256NodesInEightsPseudoCompressionFunctionU8.compress_many.Goals as goal

pub returns : goal.returns
returns g c =
    let groups = c.args.groups.now in
    let n = length c.args.out.now in
    let of = λ (group : List (List ℕ)). sha256 (concat group) in
    let size = g.row.N * g.row.D in
    let flat = c.as_flattened-bytes.result.now in
    let bytes = c.as_flattened-bytes.ensures.value
    ∙ ap (λ (l : List (List ℕ)). flat_map (λ x. x) l) c.as_flattened.ensures.value in
    let long : length flat ≡ size * n =
    c.as_flattened-bytes.ensures.len ∙ ap (λ (k : ℕ). k * g.row.D) c.as_flattened.ensures.len
    ∙ mul_assoc (length groups) g.row.N g.row.D ∙ mul_comm (length groups) size
    ∙ ap (λ (k : ℕ). size * k) c.requires in
    c.hash_many.ensures size long ∙ map-map sha256 (message size flat) (range_with_len 0 n)
    ∙ sym (fill_by_all (λ k. sha256 (message size flat k)) (map of groups) n [] (length-map groups of ∙ c.requires)
    (λ k h. let inside : k < length groups = rw c.requires h in
    get_or-map of groups k [] [] inside
    ∙ sym (ap (λ (l : List ℕ). sha256 (message size l k)) bytes
    ∙ ap sha256 (message_of_group g.row.N g.row.D groups c.lemma_rows.ensures c.lemma_digests.ensures k inside))))
