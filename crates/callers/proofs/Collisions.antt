-- Two groups of digests that collide under SHA-256 are two messages that do.
use Rattle.std.proofs.Common.{◌≡◌, ◌≢◌, ◌∙◌, ℕ, List, Result, Option, Ok, Some, IfOk, IfSome, subst, sym, ap}
use Rattle.std.specs.List.{concat}
use Rattle.p3_hashes.specs.Laws.{AreDigests, GroupsAreMessages}
use Rattle.p3_hashes.specs.Sha.{sha256_nodes, sha256_rows}
use Rattle.p3_merkle_tree.specs.Checks.{Input, Params, digests_at}
use Rattle.p3_merkle_tree.specs.Extraction.{IsFirstCollision}
use Rattle.p3_merkle_tree.specs.InputPair.{InputPair}
use Rattle.p3_merkle_tree.specs.MerkleTreeError.{MerkleTreeError}
use Rattle.p3_merkle_tree.specs.Place.{Place}
use Rattle.p3_merkle_tree.specs.Presented.{Presented}
use Rattle.p3_merkle_tree.specs.Views.{found_alone, inputs_in}

pub messages_collide : (c : Params ℕ ℕ) (p q : Presented ℕ ℕ)
    (result : Result (Option (InputPair ℕ (List ℕ))) MerkleTreeError) (pair : InputPair ℕ (List ℕ)) (place : Place)
    (xs ys : List (List ℕ)) → ((digests : List (List ℕ)) → c.functions.compression digests ≡ sha256_nodes digests)
    → IfOk (found_alone result) (λ found. IfSome found (IsFirstCollision c p q)) → result ≡ Ok (Some pair)
    → inputs_in pair ≡ (digests_at place xs, digests_at place ys) → GroupsAreMessages → AreDigests xs → AreDigests ys
    → (concat xs ≢ concat ys) × (sha256_rows (concat xs) ≡ sha256_rows (concat ys))
messages_collide c p q result pair place xs ys compresses clause found shown law first second =
    let of-pair : IsFirstCollision c p q (0, 0, inputs_in pair) =
    subst (λ r. IfOk (found_alone r) (λ f. IfSome f (IsFirstCollision c p q))) found clause in
    let of-both : IsFirstCollision c p q (0, 0, (digests_at place xs, digests_at place ys)) =
    subst (λ (x : Input ℕ ℕ × Input ℕ ℕ). IsFirstCollision c p q (0, 0, x)) shown of-pair in
    let k = of-both.collision in
    let one = k.one_digest in (
      law xs ys (k.first_full ∙ sym k.second_full) first second (λ same. k.different (ap (digests_at place) same)),
      sym (compresses xs) ∙ one ∙ compresses ys,
    )
