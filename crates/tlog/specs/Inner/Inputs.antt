-- What is hashed for a root.
use Rattle.std.specs.Prelude.{ℕ, List, [], ◌∷◌, ◌++◌, length, take, drop}
use Rattle.tlog.specs.Rfc9162.{Hash, root_of, split}

-- the byte string whose hash is the root of entries
abbrev pub root_input : Hash → List (List ℕ) → List ℕ
root_input hash [] = []
root_input hash (d ∷ []) = 0 ∷ d
root_input hash (d ∷ (e ∷ rest)) =
    let k = split (length (d ∷ (e ∷ rest))) in
    1 ∷ (root_of hash (take k (d ∷ (e ∷ rest))) ++ root_of hash (drop k (d ∷ (e ∷ rest))))
