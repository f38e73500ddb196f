-- The whole eights and the rest are all messages, and their width is the length of all divided by their number.
use Rattle.std.proofs.Common.{rules, arith, ◌≡◌, ℕ, ◌<◌, ◌/◌, ◌∙◌, sym, ap, length, []}
use Rattle.std.proofs.Math.Nat.{mul-div_cancel}
use Rattle.std.proofs.lemmas.List.FromFn.{fill_by_all}
use Rattle.std.proofs.lemmas.Simd.{map-map}
use Rattle.std.specs.List.{range_with_len}
use Rattle.sha2.specs.Sha256.{sha256}
use Rattle.sha256_eights.specs.Messages.{message}
use Rattle.sha256_eights.proofs.Written.{more_written}
use Rattle.sha256_eights.proofs.messages.hash_many.Goals as goal

pub returns : goal.returns
returns g c = λ w e.
    let xs = c.args.messages.now in
    let n = length c.args.out.now in
    let some : 0 < n = search rules in
    let width : length xs / n ≡ w = rw e (mul-div_cancel w some) in
    let all = more_written c.hash_eights.ensures c.hash_rest.ensures (omega arith)
    (omega (arith, c.hash_eights.ensures.long)) c.hash_eights.ensures.long in
    fill_by_all (λ i. sha256 (message w xs i)) c.hash_rest.new.out n [] all.long
    (λ k h. all.written k (omega arith) h ∙ ap (λ (v : ℕ). sha256 (message v xs k)) width)
    ∙ sym (map-map sha256 (message w xs) (range_with_len 0 n))
