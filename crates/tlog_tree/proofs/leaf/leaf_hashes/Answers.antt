-- The places that are done have their leaf hashes (`hashed`); done and left, they are all entries in another order.
use Rattle.std.proofs.Common.{◌≡◌, ◌++◌, [], ℕ, ◌∙◌, All, List, Bor, ap, append_assoc, append-nil, arith, drop, get_or}
use Rattle.std.proofs.Common.{length, map, refl, subst, sym, take}
use Rattle.std.proofs.lemmas.List.{get_or-map, length-map, nil_from_length, take-append-drop, take_at, take_rest}
use Rattle.std.proofs.lemmas.List.Elements.{All-append, All-drop, All-nil}
use Rattle.std.proofs.lemmas.Bool.Decides.{nat_tests}
use Rattle.std.proofs.lemmas.Simd.{map-map}
use Rattle.sha2.specs.Sha256.{sha256}
use Rattle.tlog.specs.Rfc9162.{leaf_hash}
use Rattle.tlog_tree.specs.Inner.Leaves.{IsHashed, IsPlaceOf}
use Rattle.tlog_tree.proofs.Leaves.{all_hashed, moved_places, one_more_place, own_places}
use Rattle.tlog_tree.proofs.leaf.leaf_hashes.Goals as goal

abbrev bytes_of : Bor (List ℕ) → List ℕ
bytes_of entry = entry.now

pub loop-index-preserved : goal.loop-index-preserved
loop-index-preserved c =
    let E = map bytes_of c.args.entries.now in
    let i = c.loop-index.index in
    let none : Bor (List ℕ) = record { ref_ptr = (0, 0); now = [] } in
    c.in_ok-push.ensures.items
    ∙ one_more_place E i c.loop-index.by_length.items (get_or c.args.entries.now i none).now
    (sym (get_or-map bytes_of c.args.entries.now i none [] c.loop-index-test.true)) c.loop-index.invariant

pub loop-rest-init : goal.loop-rest-init
loop-rest-init c =
    let E = map bytes_of c.args.entries.now in
    let sorted = c.sort_unstable.new.self.items in
    let end : c.loop-index.index ≡ length E =
    omega (arith, c.loop-index-test.false, length-map c.args.entries.now bytes_of) in
    let moved = moved_places E c.loop-index.by_length.items sorted c.loop-index.index end c.loop-index.invariant
    c.sort_unstable.ensures.permutation in
    record {
      room = omega (arith, c.in_ok-hashes.ensures.len, c.in_ok-hashes.hashes.ok);
      own = rw c.as_slice-rest.ensures.value (own_places E sorted moved);
      hashed = ([], refl, All-nil (λ (place : ℕ × ℕ). IsHashed E c.in_ok-hashes.hashes.items place.1));
    }

pub loop-rest-preserved : goal.loop-rest-preserved
loop-rest-preserved c =
    let E = map bytes_of c.args.entries.now in
    let after = c.hash_first.new.hashes in
    let before = c.loop-rest.hashes in
    let (done, front, hashed) = c.loop-rest.invariant.hashed in
    let rest = c.loop-rest.rest.now in
    let size : length after ≡ length before.items =
    c.hash_first.auto.hashes ∙ ap length c.deref_mut.ensures.value in
    let same = take_at after (drop (length after) before.items) before.len (size ∙ sym before.ok.0) in
    let Hashed = λ (place : ℕ × ℕ). IsHashed E after place.1 in
    rw (same, take_rest rest c.in_ok-count.count) (record {
      room = size ∙ c.loop-rest.invariant.room;
      own = All-drop (IsPlaceOf E) c.in_ok-count.count rest c.loop-rest.invariant.own;
      hashed = (
        done ++ take c.in_ok-count.count rest,
        front ∙ ap (λ (places : List (ℕ × ℕ)). done ++ places) (sym (take-append-drop c.in_ok-count.count rest))
            ∙ sym (append_assoc done (take c.in_ok-count.count rest) (drop c.in_ok-count.count rest)),
        All-append Hashed done (take c.in_ok-count.count rest)
            (λ k d h. c.in_ok-count.ensures.kept (get_or done k d).1
            (rw c.deref_mut.ensures.value (hashed k d h)))
            c.in_ok-count.ensures.hashed,
      );
    })

pub returns : goal.returns
returns c =
    let E = map bytes_of c.args.entries.now in
    let sorted = c.sort_unstable.new.self.items in
    let (done, front, hashed) = c.loop-rest.invariant.hashed in
    let none : length c.loop-rest.rest.now ≡ 0 = grind (arith, nat_tests) in
    let all : done ≡ sorted =
    sym (append-nil done) ∙ ap (λ (rest : List (ℕ × ℕ)). done ++ rest) (sym (nil_from_length c.loop-rest.rest.now none))
    ∙ sym front ∙ c.as_slice-rest.ensures.value in
    let end : c.loop-index.index ≡ length E =
    omega (arith, c.loop-index-test.false, length-map c.args.entries.now bytes_of) in
    let moved = moved_places E c.loop-index.by_length.items sorted c.loop-index.index end c.loop-index.invariant
    c.sort_unstable.ensures.permutation in
    let room = c.loop-rest.invariant.room ∙ sym (length-map c.args.entries.now bytes_of) in
    all_hashed E c.loop-rest.hashes.items sorted moved room
    (subst (All (λ (place : ℕ × ℕ). IsHashed E c.loop-rest.hashes.items place.1)) all hashed)
    ∙ map-map (leaf_hash sha256) bytes_of c.args.entries.now
