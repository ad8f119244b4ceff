-- SymbolPlaces: each symbol's place among the symbols.
use Rattle.std.specs.Prelude.{ℕ}

-- `<->`
abbrev pub left_right_arrow : ℕ
left_right_arrow = 0

-- `|+|`
abbrev pub multiset_bar : ℕ
multiset_bar = 1

-- `<-`
abbrev pub left_arrow : ℕ
left_arrow = 2

-- `->`
abbrev pub right_arrow : ℕ
right_arrow = 3

-- `<~`
abbrev pub left_tilde : ℕ
left_tilde = 4

-- `~>`
abbrev pub right_tilde : ℕ
right_tilde = 5

-- `<>`
abbrev pub not_equal : ℕ
not_equal = 6

-- `<=`
abbrev pub less_or_equal : ℕ
less_or_equal = 7

-- `>=`
abbrev pub greater_or_equal : ℕ
greater_or_equal = 8

-- `||`
abbrev pub double_bar : ℕ
double_bar = 9

-- `::`
abbrev pub double_colon : ℕ
double_colon = 10

-- `-`
abbrev pub minus : ℕ
minus = 11

-- `~`
abbrev pub tilde : ℕ
tilde = 12

-- `<`
abbrev pub less : ℕ
less = 13

-- `>`
abbrev pub greater : ℕ
greater = 14

-- `=`
abbrev pub equal : ℕ
equal = 15

-- `+`
abbrev pub plus : ℕ
plus = 16

-- `*`
abbrev pub star : ℕ
star = 17

-- `/`
abbrev pub slash : ℕ
slash = 18

-- `%`
abbrev pub percent : ℕ
percent = 19

-- `(`
abbrev pub opening : ℕ
opening = 20

-- `)`
abbrev pub closing : ℕ
closing = 21

-- `[`
abbrev pub opening_bracket : ℕ
opening_bracket = 22

-- `]`
abbrev pub closing_bracket : ℕ
closing_bracket = 23

-- `{`
abbrev pub opening_brace : ℕ
opening_brace = 24

-- `}`
abbrev pub closing_brace : ℕ
closing_brace = 25

-- `,`
abbrev pub comma : ℕ
comma = 26

-- `:`
abbrev pub colon : ℕ
colon = 27

-- `.`
abbrev pub dot : ℕ
dot = 28

-- `&`
abbrev pub ampersand : ℕ
ampersand = 29

-- `|`
abbrev pub bar : ℕ
bar = 30

-- `!`
abbrev pub bang : ℕ
bang = 31

-- `?`
abbrev pub question : ℕ
question = 32

-- `;`
abbrev pub semicolon : ℕ
semicolon = 33
