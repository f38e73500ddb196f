-- A salted scheme is its plain one and its generator.
use Rattle.std.proofs.Common.{◌≡◌, ◌⊎◌, ℕ, Result, inl, inr}
use Rattle.std.proofs.Math.Bridge.{le_prop}
use Rattle.std.specs.Prelude.{Ok, Err, IfErr}
use Rattle.std.specs.declared.default.Default as default
use Rattle.std.specs.declared.cmp.PartialEq as equality
use Rattle.p3_support.specs.declared.compress.PseudoCompressionFunction as compressor
use Rattle.p3_support.specs.declared.hasher.CryptographicHasher as hasher
use Rattle.p3_support.specs.declared.packed.PackedValue as packed
use Rattle.p3_merkle_tree.specs.HidingSchemes.{generator_of, plain_of}
use Rattle.p3_merkle_tree.specs.declared.hiding_mmcs.HidingScheme.{HidingScheme}

module _ {P PW H C R X G V W : Type 0} {N D E : ℕ} {p : packed.Ghosts P V} {pd : default.Ghosts V}
    {pe : equality.Ghosts V} {q : packed.Ghosts PW W} {qd : default.Ghosts W} {qe : equality.Ghosts W}
    {h : hasher.Ghosts H P PW D V W} {c : compressor.Ghosts C PW N D W} where
  -- salted schemes of one plain scheme and one generator are the same
  same_scheme : (s t : HidingScheme P PW H C R X G N D E V W p pd pe q qd qe h c) → plain_of s ≡ plain_of t →
      generator_of s ≡ generator_of t → s ≡ t
  same_scheme s t plain generator = λ i.
      record { plain = plain i; generator = generator i; some_salt = le_prop s.some_salt t.some_salt i }

  -- where an error leaves the generator, unless memory ran out, it leaves the whole scheme
  pub untouched_scheme : {A F : Type 0} (r : Result A F) (is_memory : F → Type 0)
      (s t : HidingScheme P PW H C R X G N D E V W p pd pe q qd qe h c) → plain_of s ≡ plain_of t →
      IfErr r (λ e. is_memory e ⊎ (generator_of s ≡ generator_of t)) → IfErr r (λ e. is_memory e ⊎ (s ≡ t))
  untouched_scheme (Ok made) is_memory s t plain left = tt
  untouched_scheme (Err e) is_memory s t plain (inl memory) = inl memory
  untouched_scheme (Err e) is_memory s t plain (inr generator) = inr (same_scheme s t plain generator)
