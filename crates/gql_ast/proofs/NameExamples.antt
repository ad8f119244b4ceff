-- Canonical texts with names, computed: whether a name is plain is looked up in Unicode's tables.
use Rattle.std.proofs.Common.{◌≡◌, [], ◌∷◌, codes, refl}
use Rattle.std.specs.Fmt.{digits}
use Rattle.std.specs.Str.{chars}
use Rattle.unicode_ident.specs.Ident.{is_xid_start, is_xid_continue}
use Rattle.ucd_table.specs.Rows.{in_ranges}
use Rattle.ucd_derived.specs.XidStartRanges.{xid_start_ranges}
use Rattle.ucd_derived.specs.XidContinueRanges.{xid_continue_ranges}
use Rattle.gql_values3.specs.Names.{reserved_words}
use Rattle.gql_values3.specs.declared.comparison.Comparison.TheVariants as op
use Rattle.gql_ast.specs.Tree.{number, name, property, parameter, comparing, test, label_test, negation, disjunction, link, links_of}
use Rattle.gql_ast.specs.Label as label
use Rattle.gql_ast.specs.ValueText.{name_text}
use Rattle.gql_ast.specs.ExprText.{expr_text}
use Rattle.gql_ast.specs.declared.words.Operator.TheVariants as operators
use Rattle.gql_ast.specs.declared.words.Quality.TheVariants as qualities
use Rattle.gql_ast.specs.declared.words.Sense.TheVariants as senses

plain_name_text : name_text (codes "a") ≡ codes "a"
unfolding digits chars is_xid_start is_xid_continue in_ranges xid_start_ranges xid_continue_ranges reserved_words
plain_name_text = refl

-- a reserved word in any case stands between backticks
reserved_name_text : name_text (codes "Match") ≡ codes "`Match`"
unfolding digits chars is_xid_start is_xid_continue in_ranges xid_start_ranges xid_continue_ranges reserved_words
reserved_name_text = refl

-- not a.b=1 or $p is null
canonical_chain : expr_text (disjunction (negation (comparing op.Eq (property (codes "a") (codes "b")) (number (codes "1")))) (links_of (link operators.Or (test (parameter (codes "p")) senses.Is qualities.Null) ∷ [])))
    ≡ codes "NOT a.b = 1 OR $p IS NULL"
unfolding expr_text digits chars is_xid_start is_xid_continue in_ranges xid_start_ranges xid_continue_ranges reserved_words
canonical_chain = refl

-- x:A&B
canonical_labels : expr_text (label_test (name (codes "x")) senses.Is (label.conjunction (label.name (codes "A")) (label.labels_listed (label.name (codes "B") ∷ [])))) ≡ codes "x IS LABELED A&B"
unfolding expr_text digits chars is_xid_start is_xid_continue in_ranges xid_start_ranges xid_continue_ranges reserved_words
canonical_labels = refl
