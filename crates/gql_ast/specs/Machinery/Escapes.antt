-- How the bytes of a text print, by where the text stands.
use Rattle.std.specs.Prelude.{ℕ, ◌==◌, ◌||◌, nat_lt, Bool, List}
use Rattle.gql_ast.specs.ValueText.{in_string, in_ticks, in_header}
use Rattle.gql_ast.specs.declared.text.escapes.Setting.{Setting}
use Rattle.gql_ast.specs.declared.text.escapes.Setting.TheVariants as settings

-- what a byte prints as
abbrev pub escaped : Setting → ℕ → List ℕ
escaped settings.String b = in_string b
escaped settings.Name b = in_ticks b
escaped settings.Header b = in_header b

-- a control character of ASCII
abbrev pub is_control : ℕ → Bool
is_control b = nat_lt b 32 || (b == 127)

-- a byte that does not print as it is
abbrev pub is_escaped : Setting → ℕ → Bool
is_escaped settings.String b = (b == 39) || (b == 92) || is_control b
is_escaped settings.Name b = (b == 96) || (b == 92) || is_control b
is_escaped settings.Header b = is_control b
