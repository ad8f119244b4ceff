-- FOR.
--
--   For = FOR Name IN Expr [WITH (ORDINALITY or OFFSET) Name]
use Rattle.std.specs.Prelude.{ℕ, List}
use Rattle.gql_lexer.specs.declared.lexeme.Lexeme.{Lexeme}
use Rattle.gql_ast.specs.declared.clause.Counting.{Counting}
use Rattle.gql_ast.specs.declared.clause.For.{For}
use Rattle.gql_lexer.specs.WordPlaces.{FOR, IN, WITH}
use Rattle.gql_front.specs.Tables.{Begins}
use Rattle.gql_front.specs.Reading.{is_word, name_in}
use Rattle.gql_parts.specs.Parts.{Passes, IsOptional}
use Rattle.gql_parts.specs.Values.{IsValue}
use Rattle.gql_statements.specs.PartWords.{counting_word}

-- WITH (ORDINALITY or OFFSET) Name
abbrev pub IsCounter : Counting × List ℕ → List Lexeme → List Lexeme → Type 0
IsCounter c ts r = (a : List Lexeme) × Passes (is_word WITH) ts a × (b : List Lexeme) × Begins counting_word c.0 a b × Begins name_in c.1 b r

-- FOR x IN e, and a counter behind it, which may be missing
abbrev pub IsFor : For → List Lexeme → List Lexeme → Type 0
IsFor f ts r =
    (a : List Lexeme) × Passes (is_word FOR) ts a × (b : List Lexeme) × Begins name_in f.name a b × (c : List Lexeme) × Passes (is_word IN) b c
    × (d : List Lexeme) × IsValue f.list c d × IsOptional IsCounter f.counter d r
