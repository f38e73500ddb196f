-- A tree over words is the tree over their numbers.
use Rattle.std.proofs.Common.{◌≡◌, ℕ, List, [], ◌∷◌, ◌++◌, map, refl, sym, ap, ◌∙◌}
use Rattle.std.proofs.lemmas.List.{map-id}
use Rattle.std.specs.Prelude.{flat_map}
use Rattle.p3_support.specs.Batches.{dimensions_in}
use Rattle.p3_support.specs.RowMajor.{row_count, row_width}
use Rattle.p3_support.specs.declared.matrix.Dimensions.{Dimensions}
use Rattle.p3_support.specs.declared.matrix.RowMajorMatrix.{RowMajorMatrix}
use Rattle.p3_merkle_core.specs.Caps.{cap_layer}
use Rattle.p3_merkle_core.specs.declared.cap.CapRule.{CapRule}
use Rattle.p3_merkle_core.specs.Geometry.{shape_of}
use Rattle.p3_merkle_core.specs.Nodes.{layer, layers, shape, Batch, Functions, Matrix}
use Rattle.p3_merkle_core.specs.Openings.{honest_rows, node_in}
use Rattle.p3_merkle_core.specs.Pruning.{boundary_by, pruned_len}
use Rattle.mmcs_engine.specs.declared.command.Action.{Action}
use Rattle.mmcs_engine.specs.declared.command.Action.TheVariants.{Commit, Open, Check}
use Rattle.mmcs_engine.specs.declared.command.CapChoice.{CapChoice}
use Rattle.mmcs_engine.specs.declared.command.HashName.{HashName}
use Rattle.mmcs_engine.specs.Matrices.{batch_of_rows, matrix_of_rows}
use Rattle.mmcs_engine.specs.Inner.Stored.{stored_batch, stored_matrix}
use Rattle.mmcs_engine.specs.Text.{digest_lines, hex_lines, ok_line, query_lines}
use Rattle.mmcs_engine.specs.Program.{functions_of_hash, hex_digits, layer_of_cap, text_of}
use Rattle.mmcs_engine.specs.Inner.Alike.{batch_in_numbers, matrix_in_numbers, opened_text, ComputeAlike, IsSchemeOf}
use Rattle.mmcs_engine.proofs.MatrixFacts.{digests_plain, stored_dimensions, stored_plain}
use std.Equiv.{iso_to_equiv}
use std.Univalence.{equiv_j}

-- a fact of a type of words and of what their numbers are holds where each number is the number of one word, if it
-- holds of the numbers themselves
pub by_number : {W : Type 0} (value : W → ℕ) → ((n : ℕ) → (w : W) × (value w ≡ n)) →
    ((v w : W) → value v ≡ value w → v ≡ w) → (P : (T : Type 0) → (T → ℕ) → Type 0) → P ℕ (λ n. n) → P W value
unfolding std.Equiv.id_equiv
by_number value some_word one_word P plain =
    equiv_j (λ T e. P T e.0) plain
    (iso_to_equiv (record {
      fun = value;
      inv = λ n. (some_word n).0;
      rinv = λ n. (some_word n).1;
      linv = λ w. one_word (some_word (value w)).0 w (some_word (value w)).1;
    }))

-- ---- numbers stand for themselves

matrix_plain : (m : Matrix ℕ) → matrix_in_numbers (λ n. n) m ≡ m
matrix_plain m = λ i. record { height = m.height; width = m.width; row = λ j. map-id (m.row j) i }

matrices_plain : (ms : List (Matrix ℕ)) → map (matrix_in_numbers (λ n. n)) ms ≡ ms
matrices_plain [] = refl
matrices_plain (m ∷ ms) = λ i. matrix_plain m i ∷ matrices_plain ms i

batch_plain : (b : Batch ℕ) → batch_in_numbers (λ n. n) b ≡ b
batch_plain b = λ i. record { arity = b.arity; matrices = matrices_plain b.matrices i }

-- functions of numbers compute what they compute
pub plain_alike : (f g : Functions ℕ ℕ) → f ≡ g → ComputeAlike (λ n. n) f g
plain_alike f g same = record {
  hash = λ words. map-id (f.hash words) ∙ (λ i. (same i).hash (sym (map-id words) i));
  compression = λ digests. map-id (f.compression digests) ∙ (λ i. (same i).compression (sym (digests_plain digests) i));
  default_digest = map-id f.default_digest ∙ ap (λ (h : Functions ℕ ℕ). h.default_digest) same;
}

-- and nothing else does
pub alike_plain : (f g : Functions ℕ ℕ) → ComputeAlike (λ n. n) f g → f ≡ g
alike_plain f g alike = λ i. record {
  hash = λ words. (sym (map-id (f.hash words)) ∙ alike.hash words ∙ ap g.hash (map-id words)) i;
  compression = λ digests. (sym (map-id (f.compression digests)) ∙ alike.compression digests
      ∙ ap g.compression (digests_plain digests)) i;
  default_digest = (sym (map-id f.default_digest) ∙ alike.default_digest) i;
}

-- ---- what is said of words is said of their numbers

-- what `open` prints of a batch of numbers, whose layers functions of numbers make
abbrev printed : ℕ → Functions ℕ ℕ → Batch ℕ → List ℕ → ℕ → List ℕ
printed digits g b indices t =
    flat_map (λ i. query_lines i (honest_rows b i)) indices
    ++ digest_lines digits (boundary_by (node_in [] (layers g b)) (shape b) indices t)

pub record InNumbers {T : Type 0} (value : T → ℕ) : Type 0 where
  pub stored : (ms : List (RowMajorMatrix T)) (matrices : List (List (List ℕ))) (arity : ℕ) →
      map (stored_matrix (map value)) ms ≡ map matrix_of_rows matrices →
      batch_in_numbers value (stored_batch arity ms) ≡ batch_of_rows arity matrices
  pub same_shape : (b : Batch T) → shape b ≡ shape (batch_in_numbers value b)
  pub layer_is : (f : Functions T T) (g : Functions ℕ ℕ) → ComputeAlike value f g → (b : Batch T) (l : ℕ) →
      map (map value) (layer f b l) ≡ layer g (batch_in_numbers value b) l
  pub opened_is : (f : Functions T T) (g : Functions ℕ ℕ) → ComputeAlike value f g → (b : Batch T) (digits : ℕ)
      (indices : List ℕ) (t : ℕ) → opened_text value digits b (layers f b) indices t
      ≡ printed digits g (batch_in_numbers value b) indices t

-- this holds of numbers
plain : InNumbers (λ n. n)
plain = record {
  stored = λ ms matrices arity same. batch_plain (stored_batch arity ms)
      ∙ (λ i. record { arity = arity; matrices = (stored_plain ms ∙ same) i });
  same_shape = λ b. ap shape (sym (batch_plain b));
  layer_is = λ f g alike b l. digests_plain (layer f b l)
      ∙ (λ i. layer (alike_plain f g alike i) (sym (batch_plain b) i) l);
  opened_is = λ f g alike b digits indices t.
      (λ i. flat_map (λ k. query_lines k (digests_plain (honest_rows b k) i)) indices
      ++ digest_lines digits (digests_plain (boundary_by (node_in [] (layers f b)) (shape b) indices t) i))
      ∙ (λ i. printed digits (alike_plain f g alike i) (sym (batch_plain b) i) indices t);
}

module _ {T : Type 0} (value : T → ℕ) (some_word : (n : ℕ) → (w : T) × (value w ≡ n))
    (one_word : (v w : T) → value v ≡ value w → v ≡ w) where
  -- and so of words
  pub in_numbers : InNumbers value
  in_numbers = by_number value some_word one_word (λ W v. InNumbers v) plain

  -- ---- what is printed

  module _ {hash : HashName} {cap : CapChoice} {max digits : ℕ} {f : Functions T T} {cap_height : ℕ} {rule : CapRule}
      (asked : IsSchemeOf hash cap value max digits f cap_height rule) (b : Batch T) (indices : List ℕ) where
    abbrev numbers : Batch ℕ
    numbers = batch_in_numbers value b

    abbrev own_layer : ℕ
    own_layer = cap_layer (shape b) rule cap_height

    abbrev due : Action → List ℕ
    due action = text_of hash action indices numbers (layer_of_cap cap (shape numbers))

    own_layer_is : own_layer ≡ layer_of_cap cap (shape numbers)
    own_layer_is = λ i. cap_layer (in_numbers.same_shape b i) (asked.same_rule i) (asked.same_height i)

    pub commit_printed : hex_lines digits (map (map value) (layer f b own_layer)) ≡ due Commit
    commit_printed =
        ap (λ width. hex_lines width (map (map value) (layer f b own_layer))) asked.printed_digits
        ∙ ap (hex_lines (hex_digits hash)) (in_numbers.layer_is f (functions_of_hash hash) asked.alike b own_layer)
        ∙ ap (λ l. hex_lines (hex_digits hash) (layer (functions_of_hash hash) numbers l)) own_layer_is

    pub open_printed : opened_text value digits b (layers f b) indices own_layer ≡ due Open
    open_printed =
        ap (λ width. opened_text value width b (layers f b) indices own_layer) asked.printed_digits
        ∙ in_numbers.opened_is f (functions_of_hash hash) asked.alike b (hex_digits hash) indices own_layer
        ∙ ap (printed (hex_digits hash) (functions_of_hash hash) numbers indices) own_layer_is

    pub check_printed : ok_line (pruned_len (shape b) indices own_layer) ≡ due Check
    check_printed = λ i. ok_line (pruned_len (in_numbers.same_shape b i) indices (own_layer_is i))

-- ---- stored matrices

-- the shape of stored matrices, from their dimensions
pub stored_shape : {T : Type 0} (ms stored : List (RowMajorMatrix T)) (dimensions lent : List Dimensions) (arity : ℕ) →
    lent ≡ dimensions → dimensions ≡ dimensions_in row_count row_width ms → ms ≡ stored →
    shape_of arity lent ≡ shape (stored_batch arity stored)
stored_shape ms stored dimensions lent arity lent_is dimensions_are same =
    ap (shape_of arity)
    (lent_is ∙ dimensions_are ∙ ap (dimensions_in row_count row_width) same ∙ stored_dimensions stored arity)
