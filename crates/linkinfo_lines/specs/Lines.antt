-- Lines, and the words of a line.
use Rattle.std.specs.Prelude.{ℕ, ◌==◌, if◌then◌else◌, List, [], ◌∷◌, length}
use Rattle.std.specs.List.{slice_split}

-- the segments, without an empty last one
abbrev pub without_empty_last : List (List ℕ) → List (List ℕ)
without_empty_last [] = []
without_empty_last (part ∷ []) = if length part == 0 then [] else part ∷ []
without_empty_last (part ∷ next ∷ more) = part ∷ without_empty_last (next ∷ more)

-- the lines of an input: what precedes each line feed, and what follows the last one if that is not
-- empty
abbrev pub lines_of : List ℕ → List (List ℕ)
lines_of input = without_empty_last (slice_split (λ b. b == 10) input)

-- the words of a line: what is between its spaces, so a space at an end, or two together, make an
-- empty word
abbrev pub words_of : List ℕ → List (List ℕ)
words_of line = slice_split (λ b. b == 32) line
