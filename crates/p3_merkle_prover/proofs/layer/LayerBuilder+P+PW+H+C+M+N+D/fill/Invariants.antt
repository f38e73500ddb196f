use Rattle.std.proofs.Common.{◌*◌, length}
use Rattle.p3_merkle_hashing.specs.Inner.Slots.{IsFilled}
use Rattle.p3_merkle_prover.specs.Inner.Slots.{slot_of}
use Rattle.p3_merkle_prover.proofs.layer.LayerBuilder+P+PW+H+C+M+N+D.fill.Given as goal

-- the blocks so far are written
abbrev pub invariant-loop-block : goal.invariant-loop-block
invariant-loop-block g l =
    IsFilled (slot_of l.self) (l.block * g.PW.PackedValue.WIDTH) (length l.initial.nodes) l.nodes
