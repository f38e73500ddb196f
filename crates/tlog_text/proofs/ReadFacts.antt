-- Parts of a text that are read as they are printed, and as nothing else: one, and many one after another.
use Rattle.std.proofs.Common.{◌≡◌, Bool, true, false, Decides, ℕ, List, [], ◌∷◌, ◌++◌, Option, Some, None, Result, Ok}
use Rattle.std.proofs.Common.{Err, refl, sym, ap, ◌∙◌, append_assoc, subst, if◌then◌else◌, ◌↔◌, ◌<◌, ◌≤◌, ◌+◌, ◌-◌}
use Rattle.std.proofs.Common.{zero, suc, length, append-nil, arith, flat_map, All}
use Rattle.std.proofs.lemmas.List.Elements.{All-nil, All-cons, All-head, All-tail}
use Rattle.std.specs.Option.{option_map_or}
use Rattle.std.specs.Result.{result_map_both}
use Rattle.tlog_text.specs.Reading.{ended, line_by, then_read, Reads, many}
use Rattle.tlog_text.specs.Inner.Rests.{rest_of}
use Rattle.tlog_text.specs.Lines.{cut_at, passing}
use Rattle.tlog_text.specs.Texts.{line}
use Rattle.tlog_text.specs.declared.error.Expected.{Expected}
use Rattle.tlog_text.specs.declared.error.Stop.{Stop}
use Rattle.tlog_text.specs.declared.error.TextError.{TextError}
use Rattle.tlog_text.proofs.TestFacts.{cut_found, Lacks, found, only_if, said_as, IsFound}

-- what was read if reading did not stop: just this is said of it
pub record IsRead {W : Type 0} (r : Result W Stop) (Says : W → Type 0) : Type 0 where
  pub back : (w : W) → Says w → r ≡ Ok w
  pub only : (w : W) → r ≡ Ok w → Says w

-- at the front of a text just the texts of such values are read, ahead of such a rest
abbrev pub IsSpelled : {V : Type 0} → (List ℕ → Reads V) → (V → List ℕ → Type 0) → (V → List ℕ) → Type 0
IsSpelled {V} read Is text = (left : List ℕ) → IsRead (read left) (λ r. Is r.0 r.1 × (left ≡ text r.0 ++ r.1))

-- ---- steps

pub gives : {W : Type 0} (v : W) → IsRead (Ok v) (λ w. v ≡ w)
gives v = record { back = λ w is. ap Ok is; only = λ w is. cc }

pub ends : {W : Type 0} (v : W) (left : List ℕ) → IsRead (ended v left) (λ w. (left ≡ []) × (v ≡ w))
ends v [] = record { back = λ w is. ap Ok is.1; only = λ w is. (refl, cc) }
ends v (b ∷ left) = record { back = λ w (none, is). cc; only = λ w is. cc }

pub in_turn : {V W : Type 0} {P : V × List ℕ → Type 0} {Q : V → List ℕ → W → Type 0} (o : Reads V)
    (next : V → List ℕ → Result W Stop) → IsRead o P → ((v : V) (rest : List ℕ) → IsRead (next v rest) (Q v rest)) →
    IsRead (then_read o next) (λ w. (v : V) × (rest : List ℕ) × P (v, rest) × Q v rest w)
in_turn (Err stop) next here after =
    record { back = λ w (v, rest, is, says). let none = here.back (v, rest) is in cc; only = λ w is. cc }
in_turn (Ok read) next here after =
    record {
      back = λ w (v, rest, is, says).
          ap (λ r. then_read r next) (here.back (v, rest) is) ∙ (after v rest).back w says;
      only = λ w is. (read.0, read.1, here.only read refl, (after read.0 read.1).only w is);
    }

pub either : {W : Type 0} {P : W → Type 0} {a b : Result W Stop} (t : Bool) → (t ≡ true → IsRead a P) →
    (t ≡ false → IsRead b P) → IsRead (if t then a else b) P
either true passed failed = passed refl
either false passed failed = failed refl

-- what is said, value after value
pub turn : {V : Type 0} {P Q : V → List ℕ → Type 0} (v : V) (rest : List ℕ) → P v rest → Q v rest →
    (v : V) × (rest : List ℕ) × P v rest × Q v rest
turn v rest is after = (v, rest, is, after)

-- unless a test passes, or if it does
pub passes : {W P : Type 0} {Q : W → Type 0} {r : Result W Stop} (stop : Stop) (t : Bool) → Decides t P →
    IsRead r Q → IsRead (if t then Err stop else r) (λ w. (P → ⊥) × Q w)
passes stop true decided here =
    record { back = λ w (never, says). absurd (never (decided.0 refl)); only = λ w is. cc }
passes stop false decided here =
    record {
      back = λ w (never, says). here.back w says;
      only = λ w is. (λ holds. let other = decided.1 holds in cc, here.only w is);
    }

pub holds : {W P : Type 0} {Q : W → Type 0} {r : Result W Stop} (stop : Stop) (t : Bool) → Decides t P →
    IsRead r Q → IsRead (if t then r else Err stop) (λ w. P × Q w)
holds stop true decided here =
    record { back = λ w (is, says). here.back w says; only = λ w is. (decided.0 refl, here.only w is) }
holds stop false decided here =
    record { back = λ w (is, says). let other = decided.1 is in cc; only = λ w is. cc }

-- what a value that is there tells
there : {A W : Type 0} {P : A → Type 0} {Q : A → W → Type 0} (stop : Stop) (f : A → Result W Stop) (o : Option A) →
    IsFound o P → ((x : A) → IsRead (f x) (Q x)) →
    IsRead (option_map_or f o (Err stop)) (λ w. (x : A) × P x × Q x w)
there stop f None here after =
    record { back = λ w (x, is, says). let none = here.back x is in cc; only = λ w is. cc }
there stop f (Some z) here after =
    record {
      back = λ w (x, is, says). ap (λ o. option_map_or f o (Err stop)) (here.back x is) ∙ (after x).back w says;
      only = λ w is. (z, here.only z refl, (after z).only w is);
    }

pub read_as : {W : Type 0} {P Q : W → Type 0} {r : Result W Stop} → IsRead r P → ((w : W) → P w → Q w) →
    ((w : W) → Q w → P w) → IsRead r Q
read_as here to from = record { back = λ w is. here.back w (from w is); only = λ w is. to w (here.only w is) }

-- what a whole text says
pub says : {V : Type 0} {P : V → Type 0} (error : Stop → TextError) (r : Result V Stop) (v : V) → IsRead r P →
    (result_map_both (λ w. w) error r ≡ Ok v) ↔ P v
says error (Ok w) v here = (
  λ is. let same : w ≡ v = cc in here.only v (ap Ok same),
  λ is. ap (result_map_both (λ u. u) error) (here.back v is),
)
says error (Err stop) v here = (λ is. cc, λ is. let none = here.back v is in cc)

-- ---- lines

-- lines whose bytes are read as they are printed, and as nothing else
pub line_spelled : {V : Type 0} (expected : Expected) (said : List ℕ → Option V) (Is : V → Type 0)
    (bytes : V → List ℕ) → ((v : V) → Is v → Lacks 10 (bytes v)) →
    ((l : List ℕ) → IsFound (said l) (λ v. Is v × (l ≡ bytes v))) →
    IsSpelled (line_by expected said) (λ v rest. Is v) (λ v. line (bytes v))
line_spelled expected said Is bytes whole of_line left =
    read_as (there _ _ (cut_at 10 left) (cut_found 10 left) (λ cut. there _ _ (said cut.0) (of_line cut.0) (λ v.
    gives (v, cut.1))))
    (λ r (cut, (lacks, parts), (v, (is, same), end)).
    subst (λ q. Is q.0 × (left ≡ line (bytes q.0) ++ q.1)) end
    (is, parts ∙ ap (λ b. b ++ 10 ∷ cut.1) same ∙ sym (append_assoc (bytes v) (10 ∷ []) cut.1)))
    (λ r (is, parts).
    ((bytes r.0, r.1), (whole r.0 is, parts ∙ append_assoc (bytes r.0) (10 ∷ []) r.1), (r.0, (is, refl), refl)))

-- lines that pass a test
pub passing_spelled : (expected : Expected) (test : List ℕ → Bool) →
    ((bytes : List ℕ) → test bytes ≡ true → Lacks 10 bytes) →
    IsSpelled (line_by expected (passing test)) (λ bytes rest. test bytes ≡ true) line
passing_spelled expected test whole =
    line_spelled expected (passing test) (λ bytes. test bytes ≡ true) (λ bytes. bytes) whole (λ l.
    said_as (only_if (test l) (λ is. is, λ is. is) (found l))
    (λ bytes (is, same). (sym (ap test same) ∙ is, same)) (λ bytes (is, same). (ap test same ∙ is, same)))

-- ---- lists are read as they are printed, and as nothing else

module _ {V : Type 0} (stops : List ℕ → Bool) (read : List ℕ → Reads V) where
  -- what is read of more values, by whether the text is at a stop
  abbrev go : ℕ → List ℕ → Bool → Reads (List V)
  go n left stop =
      if stop then Ok ([], left)
      else then_read (read left) (λ v rest. then_read (many stops read n rest) (λ vs end. Ok (v ∷ vs, end)))

  pub at_stop : (n : ℕ) (left : List ℕ) → stops left ≡ true → many stops read n left ≡ Ok ([], left)
  unfolding many
  at_stop zero left stop = refl
  at_stop (suc n) left stop = ap (go n left) stop

  pub goes_on : (n : ℕ) (left : List ℕ) → stops left ≡ false → many stops read (suc n) left ≡ go n left false
  unfolding many
  goes_on n left on = ap (go n left) on

  module _ (Is : V → Type 0) (text : V → List ℕ) (spelled : IsSpelled read (λ v rest. Is v) text)
      (on : (v : V) (left : List ℕ) → Is v → stops (text v ++ left) ≡ false) where
    -- values, at most so many, and fewer ahead of a stop
    abbrev pub AreRead : ℕ → List V → List ℕ → Type 0
    AreRead n vs rest = All Is vs × (length vs ≤ n) × (length vs < n → stops rest ≡ true)

    abbrev AtFront : ℕ → List ℕ → List V × List ℕ → Type 0
    AtFront n left r = AreRead n r.0 r.1 × (left ≡ flat_map text r.0 ++ r.1)

    none_read : (n : ℕ) (left : List ℕ) → (0 < n → stops left ≡ true) → IsRead (Ok ([], left)) (AtFront n left)
    none_read n left stop =
        read_as (gives ([], left)) (λ r same. subst (AtFront n left) same ((All-nil Is, omega arith, stop), refl))
        (λ r said. only_none r.0 r.1 said)
      where
        only_none : (vs : List V) (rest : List ℕ) → AtFront n left (vs, rest) →
            ◌≡◌ {A = List V × List ℕ} ([], left) (vs, rest)
        only_none [] rest (are, parts) = ap (λ t. ([], t)) parts
        only_none (v ∷ vs) rest ((are, few, end), parts) =
            let more = on v (flat_map text vs ++ rest) (All-head Is v vs are) in
            let stopped = stop (omega (arith, few)) in
            let same = ap stops (parts ∙ append_assoc (text v) (flat_map text vs) rest) in
            cc

    pub many_spelled : (n : ℕ) → IsSpelled (many stops read n) (AreRead n) (λ vs. flat_map text vs)
    unfolding many
    many_spelled zero left = none_read zero left (λ less. absurd (omega (arith, less)))
    many_spelled (suc n) left =
        either (stops left) (λ stop. none_read (suc n) left (λ _. stop)) (λ here.
        read_as (in_turn _ _ (spelled left) (λ v rest. in_turn _ _ (many_spelled n rest) (λ vs end.
        gives (v ∷ vs, end))))
        (λ r (v, rest, (is, parts), (vs, end, ((are, few, stop), below), same)).
        let all = append_assoc (text v) (flat_map text vs) end in
        subst (AtFront (suc n) left) same
        ((All-cons Is v vs is are, omega (arith, few), λ less. stop (omega (arith, less))), cc))
        (λ r said. some_read r.0 r.1 here said))
      where
        some_read : (vs : List V) (end : List ℕ) → stops left ≡ false → AtFront (suc n) left (vs, end) → (v : V)
            × (rest : List ℕ) × (Is v × (left ≡ text v ++ rest)) × ((ws : List V) × (below : List ℕ)
            × AtFront n rest (ws, below) × (◌≡◌ {A = List V × List ℕ} (v ∷ ws, below) (vs, end)))
        some_read [] end here ((are, few, stop), parts) =
            let stopped = stop (omega arith) in let same = ap stops parts in absurd cc
        some_read (v ∷ vs) end here ((are, few, stop), parts) =
            turn v (flat_map text vs ++ end)
            (All-head Is v vs are, parts ∙ append_assoc (text v) (flat_map text vs) end) (turn vs end
            ((All-tail Is v vs are, omega (arith, few), λ less. stop (omega (arith, less))), refl) refl)

-- ---- one value after another

-- what is read after values that were read
abbrev pub onto : {V : Type 0} → List V → Reads (List V) → Reads (List V)
onto done (Ok read) = Ok (done ++ read.0, read.1)
onto done (Err halt) = Err halt

module _ {V : Type 0} (stops : List ℕ → Bool) (read : List ℕ → Reads V) (count i : ℕ) (done : List V)
    (left : List ℕ) where
  -- what is read after a value
  abbrev next : V → List ℕ → Reads (List V)
  next v rest = then_read (many stops read (count - (i + 1)) rest) (λ vs end. Ok (v ∷ vs, end))

  many_next : i < count → stops left ≡ false → many stops read (count - i) left ≡ then_read (read left) next
  many_next more on =
      let fewer : count - i ≡ suc (count - (i + 1)) = omega (arith, more) in
      ap (λ k. many stops read k left) fewer ∙ goes_on stops read (count - (i + 1)) left on

  pub many_more : (v : V) (rest : List ℕ) → i < count → stops left ≡ false → read left ≡ Ok (v, rest) →
      onto done (many stops read (count - i) left)
      ≡ onto (done ++ v ∷ []) (many stops read (count - (i + 1)) rest)
  many_more v rest more on is =
      ap (onto done) (many_next more on ∙ ap (λ o. then_read o next) is)
      ∙ by_rest (many stops read (count - (i + 1)) rest)
    where
      by_rest : (o : Reads (List V)) →
          onto done (then_read o (λ ws end. Ok (v ∷ ws, end))) ≡ onto (done ++ v ∷ []) o
      by_rest (Ok found) = ap (λ vs. Ok (vs, found.1)) (sym (append_assoc done (v ∷ []) found.0))
      by_rest (Err halt) = refl

  pub many_refused : (halt : Stop) → i < count → stops left ≡ false → read left ≡ Err halt →
      onto done (many stops read (count - i) left) ≡ Err halt
  many_refused halt more on is = ap (onto done) (many_next more on ∙ ap (λ o. then_read o next) is)

  pub many_stopped : stops left ≡ true → onto done (many stops read (count - i) left) ≡ Ok (done, left)
  many_stopped stop =
      ap (onto done) (at_stop stops read (count - i) left stop) ∙ ap (λ vs. Ok (vs, left)) (append-nil done)

  pub many_ended : count ≤ i → onto done (many stops read (count - i) left) ≡ Ok (done, left)
  unfolding many
  many_ended all =
      let none : count - i ≡ 0 = omega (arith, all) in
      ap (λ k. onto done (many stops read k left)) none ∙ ap (λ vs. Ok (vs, left)) (append-nil done)

-- ---- values that are read past

pub rest_ok : {V : Type 0} (o : Reads V) (rest : List ℕ) → rest_of o ≡ Ok rest → (v : V) × (o ≡ Ok (v, rest))
rest_ok (Ok read) rest is = let same : read.1 ≡ rest = cc in (read.0, ap (λ t. Ok (read.0, t)) same)
rest_ok (Err halt) rest is = cc

pub rest_err : {V : Type 0} (o : Reads V) (halt : Stop) → rest_of o ≡ Err halt → o ≡ Err halt
rest_err (Ok read) halt is = cc
rest_err (Err other) halt is = let same : other ≡ halt = cc in ap Err same

-- ---- ahead of the first value

pub many_start : {V : Type 0} (stops : List ℕ → Bool) (read : List ℕ → Reads V) (count : ℕ) (none : List V)
    (left : List ℕ) → none ≡ [] → many stops read count left ≡ onto none (many stops read (count - 0) left)
many_start {V = V} stops read count none left is =
    let all : count - 0 ≡ count = omega arith in rw (is, all) (by_outcome (many stops read count left))
  where
    by_outcome : (o : Reads (List V)) → o ≡ onto [] o
    by_outcome (Ok found) = refl
    by_outcome (Err halt) = refl
