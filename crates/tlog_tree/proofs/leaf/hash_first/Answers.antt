-- Each index that a batch names has the leaf hash of its entry, and the others keep what they have.
use Rattle.std.proofs.Common.{ℕ, List, Bor, arith, get_or, map}
use Rattle.std.proofs.lemmas.List.{length-map}
use Rattle.std.proofs.lemmas.List.Elements.{All-take}
use Rattle.tlog_tree.specs.Inner.Leaves.{IsPlaceOf}
use Rattle.tlog_tree.proofs.Leaves.{alike_places}
use Rattle.tlog_tree.proofs.leaf.hash_first.Goals as goal

abbrev bytes_of : Bor (List ℕ) → List ℕ
bytes_of entry = entry.now

pub place_hashes-requires-clause-inside : goal.place_hashes-requires-clause-inside
place_hashes-requires-clause-inside c = λ k d h.
    let E = map bytes_of c.args.entries.now in
    let own = All-take (IsPlaceOf E) 8 c.args.places.now c.requires.own k d h in
    omega (arith, own.within, length-map c.args.entries.now bytes_of, c.requires.room)

pub hash_alike-requires : goal.hash_alike-requires
hash_alike-requires c = (
  (get_or c.args.places.now 0 (0, 0)).0,
  alike_places (map bytes_of c.args.entries.now) c.args.places.now c.alike_len-alike.result
      c.alike_len-alike.ensures.within c.requires.own c.alike_len-alike.ensures.alike,
)

pub returns-clause-hashed : goal.returns-clause-hashed
returns-clause-hashed c =
    c.place_hashes-2.ensures.hashed (map bytes_of c.args.entries.now)
    (rw c.deref.ensures.value c.in_ok-hash_alike.ensures.hashes)
