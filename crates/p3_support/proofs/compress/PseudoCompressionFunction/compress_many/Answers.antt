-- Each place has the digest of its group.
use Rattle.std.proofs.Common.{rules, ◌≡◌, ◌<◌, ◌∙◌, sym, length, [], map}
use Rattle.std.proofs.lemmas.List.{ext_get_or, get_or-map, length-map}
use Rattle.p3_support.proofs.compress.PseudoCompressionFunction.compress_many.Goals as goal

pub returns : goal.returns
returns g c =
    let groups = c.args.groups.now in
    let compression = g.Self.PseudoCompressionFunction.compression c.args.self.now in
    let same : length c.loop-i.out ≡ length groups = c.loop-i.invariant.0 ∙ sym c.requires in
    ext_get_or [] c.loop-i.out (map compression groups) (same ∙ sym (length-map groups compression)) (λ k h.
    let below : k < length groups = rw (← same) h in
    c.loop-i.invariant.1 k (search rules) ∙ sym (get_or-map compression groups k [] [] below))
