-- Document 02, Five, the other way round: a trace file written as bytes.
use Rattle.std.specs.Prelude.{ℕ, zero, suc, ◌+◌, ◌*◌, ◌/◌, ◌%◌, ◌<◌, List, [], ◌∷◌, ◌++◌, length, drop, get_or}

-- Numbers as bytes, the lowest first, and a record.
abbrev pub half : ℕ → List ℕ
half n = n % 256 ∷ n / 256 ∷ []

abbrev pub word : ℕ → List ℕ
word n = half (n % 65536) ++ half (n / 65536)

abbrev pub entry : ℕ → ℕ → ℕ → List ℕ
entry kind argument value = kind ∷ argument ∷ half value

-- A file of these sections: its table, and the sections one behind the other.
abbrev pub table : ℕ → List (List ℕ) → List ℕ
table at [] = []
table at (body ∷ rest) = word at ++ (word (length body) ++ table (at + length body) rest)

abbrev pub joined : List (List ℕ) → List ℕ
joined [] = []
joined (body ∷ rest) = body ++ joined rest

abbrev pub file : List (List ℕ) → List ℕ
file sections = half (length sections) ++ (table (2 + 8 * length sections) sections ++ joined sections)

-- So many sections from number `k` on.
abbrev pub sections_from : (ℕ → List ℕ) → ℕ → ℕ → List (List ℕ)
sections_from body zero k = []
sections_from body (suc n) k = body k ∷ sections_from body n (k + 1)

-- Each number of a file is a byte.
abbrev pub Bytes : List ℕ → Type 0
Bytes f = (i : ℕ) → get_or f i 0 < 256

-- A file at the start of a lent buffer, and behind it the bytes of before.
abbrev pub placed : List ℕ → List ℕ → List ℕ
placed f buffer = f ++ drop (length f) buffer
