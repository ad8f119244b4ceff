-- Commas between the parts of a generated text, as the code writes them.
use Rattle.std.specs.Prelude.{ℕ, suc, zero, List, [], ◌++◌, codes}

-- a part that isn't the first
abbrev pub behind_comma : List ℕ → List ℕ
behind_comma part = codes ", " ++ part

-- what stands before the part of that place, from 0
abbrev pub comma_before : ℕ → List ℕ
comma_before zero = []
comma_before (suc i) = codes ", "
