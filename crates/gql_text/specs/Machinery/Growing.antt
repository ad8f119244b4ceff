-- Growing: bytes to which a text is added part by part.
use Rattle.std.specs.Prelude.{◌≡◌, ℕ, List, length, take}

-- the bytes from before stand in front of those from after
abbrev pub BeginsWith : List ℕ → List ℕ → Type 0
BeginsWith before after = take (length before) after ≡ before
