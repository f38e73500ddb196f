-- The fields of a scheme, what it computes, and the parameters of its checks.
use Rattle.std.specs.Prelude.{◌≡◌, ℕ, replicate}
use Rattle.std.specs.declared.default.Default as default
use Rattle.std.specs.declared.cmp.PartialEq as equality
use Rattle.p3_support.specs.declared.compress.PseudoCompressionFunction as compressor
use Rattle.p3_support.specs.declared.hasher.CryptographicHasher as hasher
use Rattle.p3_support.specs.declared.packed.PackedValue as packed
use Rattle.p3_merkle_core.specs.Caps.{cap_layer}
use Rattle.p3_merkle_core.specs.Checks.{Params, params}
use Rattle.p3_merkle_core.specs.Geometry.{Shape}
use Rattle.p3_merkle_core.specs.Nodes.{Functions}
use Rattle.p3_merkle_core.specs.declared.cap.CapRule.{CapRule}
use Rattle.p3_merkle_tree.specs.declared.mmcs.Scheme.{Scheme}

module _ {P PW H C X G V W : Type 0} {N D : ℕ} {p : packed.Ghosts P V} {pd : default.Ghosts V} {pe : equality.Ghosts V}
    {q : packed.Ghosts PW W} {qd : default.Ghosts W} {qe : equality.Ghosts W} {h : hasher.Ghosts H P PW D V W}
    {c : compressor.Ghosts C PW N D W} where
  -- the hasher of a scheme
  abbrev pub hash_of : Scheme P PW H C X G N D V W p pd pe q qd qe h c → H
  hash_of scheme = scheme.hash

  -- the compression of a scheme
  abbrev pub compression_of : Scheme P PW H C X G N D V W p pd pe q qd qe h c → C
  compression_of scheme = scheme.compress

  -- how many layers below the root the scheme's cap lies, as far as its rule allows
  abbrev pub cap_height_of : Scheme P PW H C X G N D V W p pd pe q qd qe h c → ℕ
  cap_height_of scheme = scheme.cap_height

  -- the rule by which the layer of the scheme's cap is chosen
  abbrev pub cap_rule_of : Scheme P PW H C X G N D V W p pd pe q qd qe h c → CapRule
  cap_rule_of scheme = scheme.cap_rule

  -- what the scheme's hasher and compression compute, and the digest of default words
  abbrev pub functions_of : Scheme P PW H C X G N D V W p pd pe q qd qe h c → Functions V W
  functions_of scheme =
      record {
        hash = h.hash scheme.hash;
        compression = c.compression scheme.compress;
        default_digest = replicate D q.default_value;
      }

  -- the layer that is the scheme's cap over a shape
  abbrev pub cap_layer_of : Scheme P PW H C X G N D V W p pd pe q qd qe h c → Shape → ℕ
  cap_layer_of scheme s = cap_layer s scheme.cap_rule scheme.cap_height

  -- the parameters of the scheme's checks over a tree of this shape
  abbrev pub params_of : Scheme P PW H C X G N D V W p pd pe q qd qe h c → Shape → Params V W
  params_of scheme s = params (functions_of scheme) s (cap_layer_of scheme s)

-- two schemes have one hasher, one compression, one cap height and one rule
pub record IsSameScheme {P PW H C X G V W : Type 0} {N D : ℕ} {p : packed.Ghosts P V} {pd : default.Ghosts V}
    {pe : equality.Ghosts V} {q : packed.Ghosts PW W} {qd : default.Ghosts W} {qe : equality.Ghosts W}
    {h : hasher.Ghosts H P PW D V W} {c : compressor.Ghosts C PW N D W}
    (s t : Scheme P PW H C X G N D V W p pd pe q qd qe h c) : Type 0 where
  pub same_hash : hash_of s ≡ hash_of t
  pub same_compression : compression_of s ≡ compression_of t
  pub same_cap_height : cap_height_of s ≡ cap_height_of t
  pub same_rule : cap_rule_of s ≡ cap_rule_of t
