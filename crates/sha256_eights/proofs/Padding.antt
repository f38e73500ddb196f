-- The bytes and the words of a message and its padding, by their places.
use Rattle.std.proofs.Common.{◌≡◌, ℕ, suc, ◌+◌, ◌-◌, ◌*◌, ◌/◌, ◌%◌, ◌^◌, ◌<◌, ◌≤◌, List, [], ◌∷◌, ◌++◌, length}
use Rattle.std.proofs.Common.{slice_index, take, drop, replicate, w64, refl, sym, ap, ◌∙◌, add-zero, length-append}
use Rattle.std.proofs.Common.{length-drop, add-one, arith}
use Rattle.std.proofs.lemmas.List.{get_or_append_left, get_or-append_right, get_or-replicate, length-replicate}
use Rattle.std.proofs.lemmas.List.{length-take-le, drop-take, take-take, drop-drop}
use Rattle.std.proofs.Math.Nat.{add-mul, one-mul, mul-le-mul_right}
use Rattle.std.proofs.lemmas.Simd.{get_or-chunk}
use Rattle.std.specs.Int.{to_be_bytes}
use Rattle.std.specs.Prelude.{slice_range}
use Rattle.sha2.specs.Sha256.{compress, hash_after, padded_message, padding, word_at}
use Rattle.sha256_eights.specs.Messages.{message}

-- how many zeros stand between the mark and the length of a message of n bytes
abbrev pub zeros : ℕ → ℕ
zeros n = (119 - n % 64) % 64

-- they fill the last block but for the length
pub zeros_fill : (n : ℕ) → n + 1 + zeros n + 8 ≡ 64 * ((n + 72) / 64)
zeros_fill n = omega arith

pub byte_of_message : (m : List ℕ) (p : ℕ) → p < length m → slice_index (padded_message m) p ≡ slice_index m p
byte_of_message m p h = get_or_append_left m (padding (length m)) 0 p h

byte_after : (m : List ℕ) (p q : ℕ) → p ≡ length m + q → slice_index (padded_message m) p
    ≡ slice_index (padding (length m)) q
byte_after m p q e =
    let high : length m ≤ p = omega arith in
    let rest : p - length m ≡ q = omega arith in
    get_or-append_right m (padding (length m)) (length m) p 0 refl high ∙ ap (slice_index (padding (length m))) rest

-- the mark stands after the message
pub byte_mark : (m : List ℕ) (p : ℕ) → p ≡ length m → slice_index (padded_message m) p ≡ 128
byte_mark m p e = byte_after m p 0 (omega arith)

-- the padding after its mark
abbrev after_mark : ℕ → List ℕ
after_mark n = replicate (zeros n) 0 ++ to_be_bytes w64 (n * 8 % 2 ^ 64)

byte_later : (m : List ℕ) (p q : ℕ) → p ≡ length m + 1 + q → slice_index (padded_message m) p
    ≡ slice_index (after_mark (length m)) q
byte_later m p q e = byte_after m p (suc q) (omega arith)

pub byte_zero : (m : List ℕ) (p : ℕ) → length m < p → p < length m + 1 + zeros (length m)
    → slice_index (padded_message m) p ≡ 0
byte_zero m p low high =
    let z = zeros (length m) in
    let q = p - length m - 1 in
    let at : p ≡ length m + 1 + q = omega arith in
    let inside : q < z = omega arith in
    let all : List ℕ = replicate z 0 in
    let long : length all ≡ z = length-replicate z 0 in
    let within : q < length all = omega (arith, long) in
    byte_later m p q at ∙ get_or_append_left all (to_be_bytes w64 (length m * 8 % 2 ^ 64)) 0 q within
    ∙ get_or-replicate z q 0 0 inside

pub byte_length : (m : List ℕ) (p q : ℕ) → p ≡ length m + 1 + zeros (length m) + q
    → slice_index (padded_message m) p ≡ slice_index (to_be_bytes w64 (length m * 8 % 2 ^ 64)) q
byte_length m p q e =
    let z = zeros (length m) in
    let at : p ≡ length m + 1 + (z + q) = omega arith in
    let high : z ≤ z + q = omega arith in
    let rest : z + q - z ≡ q = omega arith in
    byte_later m p (z + q) at ∙ get_or-append_right (replicate z 0) (to_be_bytes w64 (length m * 8 % 2 ^ 64)) z (z + q)
    0 (length-replicate z 0) high
    ∙ ap (slice_index (to_be_bytes w64 (length m * 8 % 2 ^ 64))) rest

-- a word by its four bytes
word_by : (b : List ℕ) (at p q r s : ℕ) → slice_index b at ≡ p → slice_index b (at + 1) ≡ q → slice_index b (at + 2) ≡ r
    → slice_index b (at + 3) ≡ s
    → word_at b at ≡ word_at (p ∷ q ∷ r ∷ s ∷ []) 0
word_by b at p q r s ep eq er es = rw (ep, eq, er, es) refl

-- words that two lists share
pub word_same : (a b : List ℕ) (k l : ℕ) → ((i : ℕ) → i < 4 → slice_index a (k + i) ≡ slice_index b (l + i))
    → word_at a k ≡ word_at b l
word_same a b k l same =
    let zeroth : slice_index a k ≡ slice_index b l = rw (add-zero, add-zero) at (same 0 (omega arith)) in
    rw (zeroth, same 1 (omega arith), same 2 (omega arith), same 3 (omega arith)) refl

pub word_zero : (m : List ℕ) (at : ℕ) → length m < at → at + 12 ≤ 64 * ((length m + 72) / 64)
    → word_at (padded_message m) at ≡ 0
word_zero m at low high =
    let fill = zeros_fill (length m) in
    word_by (padded_message m) at 0 0 0 0 (byte_zero m at low (omega arith))
    (byte_zero m (at + 1) (omega arith) (omega arith)) (byte_zero m (at + 2) (omega arith) (omega arith))
    (byte_zero m (at + 3) (omega arith) (omega arith))

-- the word that begins with the mark
pub word_mark : (m : List ℕ) (n : ℕ) → 4 * n ≡ length m → word_at (padded_message m) (4 * n) ≡ 0x80000000
word_mark m n e =
    let at = 4 * n in
    let fill = zeros_fill (length m) in
    word_by (padded_message m) at 128 0 0 0 (byte_mark m at e) (byte_zero m (at + 1) (omega arith) (omega arith))
    (byte_zero m (at + 2) (omega arith) (omega arith)) (byte_zero m (at + 3) (omega arith) (omega arith))

-- the two words of the length in bits
length_words : (n : ℕ) → n < 2 ^ 64 → (word_at (to_be_bytes w64 n) 0 ≡ n / 2 ^ 32) ×
    (word_at (to_be_bytes w64 n) 4 ≡ n % 2 ^ 32)
length_words n fits = (omega arith, omega arith)

pub word_high : (m : List ℕ) (at bits : ℕ) → bits ≡ length m * 8 % 2 ^ 64 → at + 8 ≡ 64 * ((length m + 72) / 64)
    → word_at (padded_message m) at ≡ bits / 2 ^ 32
word_high m at bits e end =
    let fill = zeros_fill (length m) in
    let count : length m * 8 % 2 ^ 64 ≡ bits = sym e in
    let fits : bits < 2 ^ 64 = omega arith in
    word_same (padded_message m) (to_be_bytes w64 bits) at 0
    (λ i h. byte_length m (at + i) (0 + i) (omega arith)
    ∙ ap (λ (n : ℕ). slice_index (to_be_bytes w64 n) (0 + i)) count)
    ∙ (length_words bits fits).0

pub word_low : (m : List ℕ) (at bits : ℕ) → bits ≡ length m * 8 % 2 ^ 64 → at + 4 ≡ 64 * ((length m + 72) / 64)
    → word_at (padded_message m) at ≡ bits % 2 ^ 32
word_low m at bits e end =
    let fill = zeros_fill (length m) in
    let count : length m * 8 % 2 ^ 64 ≡ bits = sym e in
    let fits : bits < 2 ^ 64 = omega arith in
    word_same (padded_message m) (to_be_bytes w64 bits) at 4
    (λ i h. byte_length m (at + i) (4 + i) (omega arith)
    ∙ ap (λ (n : ℕ). slice_index (to_be_bytes w64 n) (4 + i)) count)
    ∙ (length_words bits fits).1

pub length-padded_message : (m : List ℕ) → length (padded_message m) ≡ 64 * ((length m + 72) / 64)
length-padded_message m =
    let z = zeros (length m) in
    let all : List ℕ = replicate z 0 in
    let count : List ℕ = to_be_bytes w64 (length m * 8 % 2 ^ 64) in
    let long : length all ≡ z = length-replicate z 0 in
    let fill = zeros_fill (length m) in
    length-append m (padding (length m)) ∙ omega (arith, long, length-append all count, fill)

-- a block's words are those of the whole
pub word_of_block : (p : List ℕ) (t i : ℕ) → i < 16 → word_at (take 64 (drop (t * 64) p)) (4 * i)
    ≡ word_at p (4 * (16 * t + i))
word_of_block p t i h =
    word_same (take 64 (drop (t * 64) p)) p (4 * i) (4 * (16 * t + i)) (λ k low.
    let inside : 4 * i + k < 64 = omega arith in
    let place : t * 64 + (4 * i + k) ≡ 4 * (16 * t + i) + k = omega arith in
    get_or-chunk (t * 64) 64 p (4 * i + k) 0 inside ∙ ap (slice_index p) place)

-- one more block
pub hash_next : (h p : List ℕ) (t : ℕ)
    → hash_after h p (t + 1) ≡ compress (hash_after h p t) (take 64 (drop (t * 64) p))
unfolding hash_after
hash_next h p t = rw add-one refl

-- ---- messages one after another

-- k messages of w bytes are within n
pub messages_inside : (w k n bytes : ℕ) → k ≤ n → n * w ≤ bytes → k * w ≤ bytes
messages_inside w k n bytes few full = omega (arith, mul-le-mul_right w few, full)

-- a message has w bytes
pub length-message : (bytes : List ℕ) (w n j : ℕ) → length bytes ≡ n * w → j < n → length (message w bytes j) ≡ w
length-message bytes w n j full below =
    let span : (j + 1) * w - j * w ≡ w = omega (arith, add-mul j 1 w, one-mul w) in
    let fits = messages_inside w (j + 1) n (length bytes) (omega arith) (omega arith) in
    length-take-le ((j + 1) * w - j * w) (drop (j * w) bytes) (omega (arith, length-drop (j * w) bytes, fits)) ∙ span

pub byte_at : (w : ℕ) (bytes : List ℕ) (j p : ℕ) → p < w → slice_index (message w bytes j) p
    ≡ slice_index bytes (j * w + p)
byte_at w bytes j p h =
    let span : (j + 1) * w - j * w ≡ w = omega (arith, add-mul j 1 w, one-mul w) in
    ap (λ (n : ℕ). slice_index (take n (drop (j * w) bytes)) p) span ∙ get_or-chunk (j * w) w bytes p 0 h

-- a word of a message, among all of them
pub word_among : (w : ℕ) (bytes : List ℕ) (j at : ℕ) → at + 4 ≤ w → word_at bytes (j * w + at)
    ≡ word_at (message w bytes j) at
word_among w bytes j at inside =
    word_same bytes (message w bytes j) (j * w + at) at (λ i h.
    let place : j * w + at + i ≡ j * w + (at + i) = omega arith in
    ap (slice_index bytes) place ∙ sym (byte_at w bytes j (at + i) (omega arith)))

-- eight messages in the midst of others
pub length-eight : (w f : ℕ) (bytes : List ℕ) → (f + 8) * w ≤ length bytes
    → length (slice_range bytes (f * w) ((f + 8) * w)) ≡ 8 * w
length-eight w f bytes inside =
    length-take-le ((f + 8) * w - f * w) (drop (f * w) bytes) (omega (arith, length-drop (f * w) bytes, inside))
    ∙ omega arith

-- a message of eight that lie in the midst of others
pub message_of_part : (w : ℕ) (bytes : List ℕ) (f j : ℕ) → j < 8
    → message w (slice_range bytes (f * w) ((f + 8) * w)) j ≡ message w bytes (f + j)
message_of_part w bytes f j below =
    let left = 8 - j in
    let parts : 8 ≡ j + left = omega arith in
    let some : 1 * w ≤ left * w = mul-le-mul_right w (omega arith) in
    let unit = one-mul w in
    let room : (f + 8) * w - f * w ≡ j * w + left * w =
    omega (arith, add-mul f 8 w, ap (λ (n : ℕ). n * w) parts, add-mul j left w) in
    let inner : (j + 1) * w - j * w ≡ w = omega (arith, add-mul j 1 w, unit) in
    let outer : (f + j + 1) * w - (f + j) * w ≡ w = omega (arith, add-mul (f + j) 1 w, unit) in
    let start : f * w + j * w ≡ (f + j) * w = sym (add-mul f j w) in
    ap (λ (n : ℕ). take n (drop (j * w) (take ((f + 8) * w - f * w) (drop (f * w) bytes)))) inner
    ∙ ap (λ (n : ℕ). take w (drop (j * w) (take n (drop (f * w) bytes)))) room
    ∙ ap (take w) (drop-take (j * w) (left * w) (drop (f * w) bytes))
    ∙ take-take w (left * w) (drop (j * w) (drop (f * w) bytes)) (omega arith)
    ∙ ap (take w) (drop-drop (j * w) (f * w) bytes)
    ∙ ap (λ (n : ℕ). take w (drop n bytes)) start
    ∙ ap (λ (n : ℕ). take n (drop ((f + j) * w) bytes)) (sym outer)
