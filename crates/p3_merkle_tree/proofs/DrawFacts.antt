-- One more matrix gets its salts.
use Rattle.std.proofs.Common.{◌≡◌, ℕ, suc, ◌+◌, ◌-◌, ◌*◌, ◌<◌, ◌≤◌, ◌^◌, cond, nat_lt, List, [], ◌∷◌, ◌++◌, map, length}
use Rattle.std.proofs.Common.{take, refl, sym, ap, ◌∙◌, arith, inl, inr, append_assoc}
use Rattle.std.proofs.lemmas.Bool.{cases_lt, lt-ltb, le-ltb}
use Rattle.std.proofs.lemmas.List.{drop_all, map-append, take-map}
use Rattle.std.proofs.Math.Nat.{mul-le-mul_right}
use Rattle.std.proofs.Math.Seq.{take-append_seam, take-nil}
use Rattle.p3_support.specs.Batches.{CanWiden}
use Rattle.rand_core.specs.Stream.{Stream}
use Rattle.p3_support.specs.Lists.{message}
use Rattle.p3_support.specs.Salts.{after_words, salts}
use Rattle.p3_merkle_core.specs.Nodes.{Matrix, dimensions_of}
use Rattle.p3_merkle_tree.specs.Salted.{IsAfterSome, after_salts, salted, salted_matrices}

-- the first of some matrices that can be wider can be, and so can the others
pub first_fits : {T : Type 0} (e : ℕ) (m : Matrix T) (ms all : List (Matrix T)) → all ≡ m ∷ ms →
    CanWiden e (dimensions_of all) → m.width + e < 2 ^ 64
first_fits e m ms all is fits = let here = rw is at fits in here 0 (record { width = 0; height = 0 }) (omega arith)

pub others_fit : {T : Type 0} (e : ℕ) (m : Matrix T) (ms all : List (Matrix T)) → all ≡ m ∷ ms →
    CanWiden e (dimensions_of all) → CanWiden e (dimensions_of ms)
others_fit e m ms all is fits = λ k d h. let here = rw is at fits in here (suc k) d (omega arith)

-- past the last message of a list there are no values
message_past : {T : Type 0} (xs : List T) (w n i : ℕ) → length xs ≡ n * w → n ≤ i → message w xs i ≡ []
message_past xs w n i full past =
    let far = mul-le-mul_right w past in
    ap (take ((i + 1) * w - i * w)) (drop_all (i * w) xs (omega (arith, full, far))) ∙ take-nil ((i + 1) * w - i * w)

-- a row and the salts after it: past the height both are empty
pub salted_row : {T : Type 0} (h n : ℕ) (row : ℕ → List T) (values : List T) → length values ≡ h * n → (j : ℕ) →
    cond (nat_lt j h) (row j ++ message n values j) [] ≡ cond (nat_lt j h) (row j) [] ++ message n values j
salted_row h n row values full j =
    elim (cases_lt j h) [
      | inl lt ↦ let there = lt-ltb j h lt in rw there refl
      | inr ge ↦ let none = le-ltb j h ge in rw none (sym (message_past values n h j full ge))
    ]

module _ {T A : Type 0} (of_word : ℕ → T) (e : ℕ) (shown : A → Matrix T) where
  -- the salted matrix joins those before it, and the rest is still to come
  pub pairs_more : (done more all : List (Matrix T)) (m : A) (left rest : List A) (p : Matrix T) (s t : Stream) → left
      ≡ m ∷ rest → t ≡ after_words ((shown m).height * e) s →
      p ≡ salted e (salts of_word ((shown m).height * e) s) (shown m) → more ≡ done ++ p ∷ [] →
      done ++ salted_matrices of_word e (map shown left) s ≡ all → more ++ salted_matrices of_word e (map shown rest) t
      ≡ all
  pairs_more done more all m left rest p s t is after made pushed before =
      let now : more ++ salted_matrices of_word e (map shown rest) t
      ≡ done ++ salted_matrices of_word e (map shown left) s = rw (is, pushed, made, after, append_assoc) refl in
      now ∙ before

-- what is shown of one more joins what is shown of those before it
pub same_more : {X A : Type 0} (f : X → A) (done more : List X) (x : X) (m : A) (left rest all : List A) → left
    ≡ m ∷ rest → f x ≡ m → more ≡ done ++ x ∷ [] → map f done ++ left ≡ all → map f more ++ rest ≡ all
same_more f done more x m left rest all is shows pushed before =
    let now : map f more ++ rest ≡ map f done ++ left = rw (is, pushed, map-append, append_assoc, shows) refl in
    now ∙ before

module _ {T A : Type 0} (e : ℕ) (shown : A → Matrix T) where
  -- the salts of one more come after those of the others
  after_one_more : (ms : List A) (m : A) (s : Stream) → after_salts e (map shown (ms ++ m ∷ [])) s
      ≡ after_words ((shown m).height * e) (after_salts e (map shown ms) s)
  after_one_more [] m s = refl
  after_one_more (x ∷ ms) m s = after_one_more ms m (after_words ((shown x).height * e) s)

  -- the stream stands after the salts of those before, and so after those of one more
  pub drawn_more : (done more : List A) (m : A) (start s t : Stream) → more ≡ done ++ m ∷ [] → t
      ≡ after_words ((shown m).height * e) s → s ≡ after_salts e (map shown done) start → t
      ≡ after_salts e (map shown more) start
  drawn_more done more m start s t pushed after before = rw (pushed, after, before) (sym (after_one_more done m start))

  -- those before are the first of all
  pub after_some : (done left all : List A) (start s : Stream) → done ++ left ≡ all → s
      ≡ after_salts e (map shown done) start → IsAfterSome e (map shown all) start s
  after_some done left all start s is drawn =
      let first : take (length done) (map shown all) ≡ map shown done = take-map shown (length done) all
      ∙ ap (map shown) (ap (take (length done)) (sym is) ∙ take-append_seam done left) in
      (length done, drawn ∙ ap (λ (ms : List (Matrix T)). after_salts e ms start) (sym first))

  -- and so are they with the next one
  pub after_next : (done left all : List A) (m : A) (rest : List A) (start s t : Stream) → left ≡ m ∷ rest →
      done ++ left ≡ all → t ≡ after_words ((shown m).height * e) s → s ≡ after_salts e (map shown done) start →
      IsAfterSome e (map shown all) start t
  after_next done left all m rest start s t turn is after before =
      after_some (done ++ m ∷ []) rest all start t (append_assoc done (m ∷ []) rest
      ∙ ap (λ (z : List A). done ++ z) (sym turn) ∙ is)
      (drawn_more done (done ++ m ∷ []) m start s t refl after before)
