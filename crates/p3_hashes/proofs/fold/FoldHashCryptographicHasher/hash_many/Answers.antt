-- The width is the length of all messages divided by their number, and each place has the digest of its message.
use Rattle.std.proofs.Common.{rules, arith, ◌≡◌, ◌<◌, ◌/◌, ◌∙◌, sym, ap, length, []}
use Rattle.std.proofs.Math.Nat.{mul-div_cancel}
use Rattle.std.proofs.lemmas.List.FromFn.{fill_by_all}
use Rattle.std.proofs.lemmas.Simd.{map-map}
use Rattle.std.specs.List.{range_with_len}
use Rattle.p3_hashes.specs.Fold.{fold_hash}
use Rattle.p3_support.specs.Lists.{message}
use Rattle.p3_hashes.proofs.fold.FoldHashCryptographicHasher.hash_many.Goals as goal

pub returns : goal.returns
returns g c = λ w e.
    let xs = c.args.messages.now in
    let n = length c.args.out.now in
    let hash = fold_hash g.row.D in
    let some : 0 < n = search rules in
    let width : length xs / n ≡ w = rw e (mul-div_cancel w some) in
    fill_by_all (λ i. hash (message w xs i)) c.hash_all.new.out n [] c.hash_all.ensures.long
    (λ k h. c.hash_all.ensures.written k (omega arith) h ∙ ap (λ v. hash (message v xs k)) width)
    ∙ sym (map-map hash (message w xs) (range_with_len 0 n))
