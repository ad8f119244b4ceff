-- Operators and functions on data: a datum or a fault. NULL gives NULL before kinds are looked at.
use Rattle.std.specs.Prelude.{ℕ, zero, ℤ, pos, negsuc, ◌+ℤ◌, ◌-ℤ◌, ◌*ℤ◌, int_div, int_rem, nat_le, List, [], ◌∷◌, ◌++◌, length, Result, Ok, Err, if◌then◌else◌}
use Rattle.std.specs.Str.{chars}
use Rattle.std.specs.List.{flat_map}
use Rattle.gql_values3.specs.Datum.{Datum, null, integer, text, list, node, edge, path, data_of, items_of}
use Rattle.gql_values3.specs.Nesting.{depth}
use Rattle.gql_values3.specs.Integers.{is_int64}
use Rattle.gql_ast.specs.declared.words.Function.{Function}
use Rattle.gql_ast.specs.declared.words.Function.TheVariants as function
use Rattle.gql_ast.specs.declared.words.Operator.{Operator}
use Rattle.gql_ast.specs.declared.words.Operator.TheVariants as operator
use Rattle.gql_ast.specs.declared.words.Sign.{Sign}
use Rattle.gql_ast.specs.declared.words.Sign.TheVariants as sign
use Rattle.gql_ast.specs.declared.fault.DataFault.{DataFault}
use Rattle.gql_ast.specs.declared.fault.DataFault.TheVariants as fault

-- the most bytes of a string that `||` makes
abbrev pub most_text : ℕ
most_text = 16777216

-- the most items of a list that a literal, `||` or COLLECT_LIST makes
abbrev pub most_items : ℕ
most_items = 1048576

-- an integer, which has 64 bits
abbrev pub fitted : ℤ → Result Datum DataFault
fitted z = if is_int64 z then Ok (integer z) else Err fault.Overflow

-- a list that is made: not too long, and then not nested too deep
abbrev pub made_list : List Datum → Result Datum DataFault
made_list items =
    if nat_le (length items) most_items
    then (if nat_le (depth (list (data_of items))) 64 then Ok (list (data_of items)) else Err fault.TooDeep)
    else Err fault.TooLarge

-- a string that is made
abbrev pub made_text : List ℕ → Result Datum DataFault
made_text bytes = if nat_le (length bytes) most_text then Ok (text bytes) else Err fault.TooLarge

-- arithmetic on two integers
abbrev pub arithmetic : (ℤ → ℤ → Result Datum DataFault) → Datum → Datum → Result Datum DataFault
arithmetic f null b = Ok null
arithmetic f a null = Ok null
arithmetic f (integer a) (integer b) = f a b
arithmetic f a b = Err fault.WrongKind

-- `/` cuts towards zero
abbrev pub divided : ℤ → ℤ → Result Datum DataFault
divided a (pos zero) = Err fault.DivideByZero
divided a b = fitted (int_div a b)

-- a minus b times the quotient of `/`, taken without a limit
abbrev pub remaining : ℤ → ℤ → Result Datum DataFault
remaining a (pos zero) = Err fault.DivideByZero
remaining a b = fitted (int_rem a b)

-- `||` joins two strings or two lists
abbrev pub concatenated : Datum → Datum → Result Datum DataFault
concatenated null b = Ok null
concatenated a null = Ok null
concatenated (text a) (text b) = made_text (a ++ b)
concatenated (list a) (list b) = made_list (items_of a ++ items_of b)
concatenated a b = Err fault.WrongKind

-- an operator between two sides of a sum or a product
abbrev pub operated : Operator → Datum → Datum → Result Datum DataFault
operated operator.Add a b = arithmetic (λ x y. fitted (x +ℤ y)) a b
operated operator.Subtract a b = arithmetic (λ x y. fitted (x -ℤ y)) a b
operated operator.Concatenate a b = concatenated a b
operated operator.Multiply a b = arithmetic (λ x y. fitted (x *ℤ y)) a b
operated operator.Divide a b = arithmetic divided a b
operated _ a b = Err fault.WrongKind

-- a sign
abbrev pub sign_of : Sign → Datum → Result Datum DataFault
sign_of s null = Ok null
sign_of sign.Plus (integer z) = Ok (integer z)
sign_of sign.Minus (integer z) = fitted (pos 0 -ℤ z)
sign_of s _ = Err fault.WrongKind

-- a count as a value
abbrev pub counted : ℕ → Result Datum DataFault
counted n = fitted (pos n)

-- a step of a path: its edge and the node that it leads to
abbrev pub step_elements : ℕ × ℕ → List Datum
step_elements s = edge s.0 ∷ node s.1 ∷ []

-- the functions of one value
abbrev pub applied : Function → Datum → Result Datum DataFault
applied f null = Ok null
applied function.Abs (integer (pos n)) = Ok (integer (pos n))
applied function.Abs (integer (negsuc n)) = fitted (pos 0 -ℤ negsuc n)
applied function.CharLength (text t) = counted (length (chars t))
applied function.Cardinality (list ds) = counted (length (items_of ds))
applied function.PathLength (path p) = counted (length p.steps)
applied function.Elements (path p) = Ok (list (data_of (node p.start ∷ flat_map step_elements p.steps)))
applied f _ = Err fault.WrongKind
