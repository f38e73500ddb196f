-- The cap has the digest of each covered node if it has that of each query's.
use Rattle.std.proofs.Common.{◌≡◌, ◌∙◌, ℕ, ◌&&◌, Bool, true, eqb, List, [], ◌∷◌, map, refl, ap, sym, arith, inl, inr}
use Rattle.std.proofs.Common.{zip, eq-eqb}
use Rattle.std.specs.List.{list_all}
use Rattle.std.specs.Cmp.{both_ways}
use Rattle.std.specs.Cmp.Lexicographic.{pointwise}
use Rattle.std.proofs.lemmas.Bool.{and_from, and_parts, eqb-true, or_cases, or_left, or_right, true≢false}
use Rattle.std.proofs.lemmas.List.Folds.{list_all-map}
use Rattle.p3_support.specs.Lists.{is_among}
use Rattle.p3_merkle_core.specs.Geometry.{Shape, ancestor}
use Rattle.p3_merkle_core.specs.Nodes.{Functions}
use Rattle.p3_merkle_core.specs.Refusals.{cap_refusal, is_entry}
use Rattle.p3_answers.specs.Answers.{unless}
use Rattle.p3_merkle_core.specs.declared.error.MerkleTreeError.TheVariants.{CapMismatch}
use Rattle.p3_merkle_core.specs.Pruning.{CanQuery, PrunedOpening, restored_node}
use Rattle.p3_merkle_core.specs.Inner.Covered.{covered_at}
use Rattle.p3_merkle_core.specs.Checks.{params}
use Rattle.p3_merkle_core.proofs.Covered.CoveredFacts.{covered_listed, listed_covered}
use Rattle.p3_merkle_verifier.proofs.ChildFacts.{covered_listed_above}

listed_pass : (q : ℕ → Bool) (xs : List ℕ) (j : ℕ) → list_all q xs ≡ true → is_among xs j ≡ true → q j ≡ true
listed_pass q [] j a b = absurd (true≢false (sym b))
listed_pass q (x ∷ xs) j a b =
    let p = and_parts (q x) (list_all q xs) a in
    elim (or_cases (eqb x j) (is_among xs j) b) [
      | inl e ↦ let is : x ≡ j = eqb-true x j e in rw is at p.0
      | inr r ↦ listed_pass q xs j p.1 r
    ]

pass_listed : (q : ℕ → Bool) (xs : List ℕ) → ((j : ℕ) → is_among xs j ≡ true → q j ≡ true) → list_all q xs ≡ true
pass_listed q [] h = refl
pass_listed q (x ∷ xs) h =
    and_from (q x) (list_all q xs) (h x (or_left (eqb x x) (is_among xs x) (eq-eqb x x refl)))
    (pass_listed q xs (λ j l. h j (or_right (eqb x j) (is_among xs j) l)))

-- what holds of the ancestor of each query holds of each covered node, and the other way round
pub all_covered : (s : Shape) (indices : List ℕ) (t : ℕ) → CanQuery s indices t → (q : ℕ → Bool) →
    list_all q (covered_at s indices t) ≡ list_all (λ i. q (ancestor s t i)) indices
all_covered s indices t w q =
    let nodes = map (ancestor s t) indices in
    both_ways (list_all q (covered_at s indices t)) (list_all q nodes)
    (λ a. pass_listed q nodes (λ j l. listed_pass q (covered_at s indices t) j a
    (covered_listed s indices t w t j (omega arith) (covered_listed_above s indices t j ∙ l))))
    (λ b. pass_listed q (covered_at s indices t) (λ j l. listed_pass q nodes j b
    (sym (covered_listed_above s indices t j) ∙ listed_covered s indices t j l)))
    ∙ list_all-map q (ancestor s t) indices

-- nodes beside their values
pub all_beside : {X : Type 0} (q : ℕ × X → Bool) (value : ℕ → X) (nodes : List ℕ) →
    list_all q (zip nodes (map value nodes)) ≡ list_all (λ j. q (j, value j)) nodes
all_beside q value [] = refl
all_beside q value (j ∷ nodes) = ap (λ b. q (j, value j) && b) (all_beside q value nodes)

-- the cap refuses just where some covered node's digest is not its root
pub cap_settled : {T W : Type 0} (digest_eq : W → W → Bool) (f : Functions T W) {s : Shape} {t : ℕ}
    (cap : List (List W)) (p : PrunedOpening T W) → CanQuery s p.indices t →
    {nodes : List ℕ} {digests : List (List W)} {answer known : Bool} →
    nodes ≡ covered_at s p.indices t → digests ≡ map (restored_node (params f s t) p t) (covered_at s p.indices t) →
    answer ≡ list_all (λ (node, digest). is_entry (pointwise digest_eq) cap node digest) (zip nodes digests) →
    answer ≡ known → cap_refusal digest_eq (params f s t) cap p ≡ unless known CapMismatch
cap_settled digest_eq f {s} {t} cap p w {answer = answer} is_nodes is_digests e is =
    let value = restored_node (params f s t) p t in
    let q = λ (j : ℕ). is_entry (pointwise digest_eq) cap j (value j) in
    let all : answer ≡ list_all (λ i. q (ancestor s t i)) p.indices = e
    ∙ rw (is_nodes, is_digests) (all_beside (λ (node, digest). is_entry (pointwise digest_eq) cap node digest) value
    (covered_at s p.indices t)) ∙ all_covered s p.indices t w q in
    ap (λ b. unless b CapMismatch) (sym all ∙ is)
