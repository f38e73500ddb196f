-- The bytes that are put after, as the standard writes them.
use Rattle.std.proofs.Common.{◌≡◌, ◌+◌, ◌-◌, ◌*◌, ◌%◌, ◌^◌, ◌++◌, ◌∷◌, [], List, ℕ, suc, ◌∙◌, ap, append_assoc, arith}
use Rattle.std.proofs.Common.{length, replicate, take, w64}
use Rattle.std.proofs.lemmas.List.{take-replicate}
use Rattle.std.specs.Int.{to_be_bytes}
use Rattle.sha2.specs.Sha256.{padded_message, padding}
use Rattle.sha256_eights.proofs.padded.push_padded.Goals as goal

regrouped : (old rest zeros count : List ℕ) (first : ℕ) →
    ((((old ++ first ∷ []) ++ rest) ++ 128 ∷ []) ++ zeros) ++ count
    ≡ old ++ first ∷ (rest ++ 128 ∷ (zeros ++ count))
regrouped old rest zeros count first = simp append_assoc

assembled : (old rest : List ℕ) (first n : ℕ) → n ≡ suc (length rest) →
    ((((old ++ first ∷ []) ++ rest) ++ 128 ∷ []) ++ take ((119 - n % 64) % 64) (replicate 64 0))
    ++ to_be_bytes w64 (n * 8 % 2 ^ 64) ≡ old ++ padded_message (first ∷ rest)
assembled old rest first n is =
    let z = (119 - n % 64) % 64 in
    let count = to_be_bytes w64 (n * 8 % 2 ^ 64) in
    regrouped old rest (take z (replicate 64 0)) count first
    ∙ ap (λ zeros. old ++ first ∷ (rest ++ 128 ∷ (zeros ++ count))) (take-replicate z 64 0 (omega arith))
    ∙ ap (λ k. old ++ first ∷ (rest ++ padding k)) is

pub returns : goal.returns
returns c =
    let rest = c.args.rest.now in
    let n = length rest + 1 in
    let one_more : n ≡ suc (length rest) = omega arith in
    let zeros : List ℕ = take ((119 - n % 64) % 64) (replicate 64 0) in
    let count = c.to_be_bytes.result in
    c.in_ok-extend_from_slice-3.ensures.items
    ∙ ap (λ xs. xs ++ count)
    (c.in_ok-extend_from_slice-2.ensures.items
    ∙ ap (λ xs. xs ++ zeros)
    (c.in_ok-push-2.ensures.items
    ∙ ap (λ xs. xs ++ 128 ∷ [])
    (c.in_ok-extend_from_slice.ensures.items ∙ ap (λ xs. xs ++ rest) c.in_ok-push.ensures.items)))
    ∙ ap (λ xs. ((((c.args.blocks.now.items ++ c.args.first ∷ []) ++ rest) ++ 128 ∷ []) ++ zeros) ++ xs)
    c.to_be_bytes.ensures
    ∙ assembled c.args.blocks.now.items rest c.args.first n one_more
