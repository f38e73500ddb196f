-- Two different groups with one digest are two different messages of SHA-256 with one digest.
use Rattle.std.proofs.Common.{rules, ◌≡◌, ◌∙◌, refl, sym, ap, Ok, Some}
use Rattle.std.specs.List.{concat}
use Rattle.p3_hashes.specs.Sha.{sha256_rows}
use Rattle.p3_merkle_tree.specs.InputPair.TheVariants.{Digests}
use Rattle.callers.proofs.Collisions.{messages_collide}
use Rattle.callers.proofs.messages.colliding_messages.Goals as goal

pub returns-in_ok-group_message-in-Some-Digests : goal.returns-in_ok-group_message-in-Some-Digests
returns-in_ok-group_message-in-Some-Digests g c =
    let d = c.in-Some-Digests in
    let pair = Digests d.field-0-0 d.first d.second in
    let found : c.extract_collision.result ≡ Ok (Some pair) = search rules in
    let collide = messages_collide _ _ _ _ pair d.field-0-0 d.first.items d.second.items (λ digests. refl)
    c.extract_collision.ensures.extraction.collision found refl c.groups_are_messages.ensures in
    let first : c.in_ok-message-in-Some-Digests.message.items ≡ concat d.first.items = search rules in
    let second : c.in_ok-group_message-in-Some-Digests.field-0.items ≡ concat d.second.items = search rules in
    let both = collide (search rules) (search rules) in
    (λ same. both.0 (sym first ∙ same ∙ second), ap sha256_rows first ∙ both.1 ∙ sym (ap sha256_rows second))
