-- The laws of graph types: what is read is derived, and what is derived is read.
use Rattle.std.proofs.Common.{◌≡◌, ◌<◌, ◌≤◌, Bool, true, false, ◌||◌, ℕ, List, length, Option, Some, None, refl, sym, ap, subst, ◌∙◌, arith}
use Rattle.std.specs.Prelude.{if◌then◌else◌}
use Rattle.gql_lexer.specs.declared.lexeme.Lexeme.{Lexeme}
use Rattle.gql_lexer.specs.declared.lexeme.Lexeme.TheVariants as lex
use Rattle.gql_lexer.specs.SymbolPlaces.{opening, closing, opening_bracket, closing_bracket, opening_brace, closing_brace, ampersand, less, greater, comma}
use Rattle.gql_lexer.specs.WordPlaces as word
use Rattle.gql_values3.specs.declared.prop_kind.Scalar.{Scalar}
use Rattle.gql_values3.specs.declared.prop_kind.PropKind.{PropKind}
use Rattle.gql_values3.specs.declared.prop_kind.PropKind.TheVariants as kind
use Rattle.gql_ast.specs.declared.change.Arrow.{Arrow}
use Rattle.gql_ast.specs.declared.graph_type.TypeProperty.{TypeProperty}
use Rattle.gql_ast.specs.declared.graph_type.ElementBody.{ElementBody}
use Rattle.gql_ast.specs.declared.graph_type.TypeElement.{TypeElement}
use Rattle.gql_ast.specs.declared.graph_type.TypeElement.TheVariants as element
use Rattle.gql_ast.specs.declared.graph_type.TypeBody.{TypeBody}
use Rattle.gql_front.specs.Longest.{Longest}
use Rattle.gql_front.specs.Tables.{Begins}
use Rattle.gql_front.specs.Reading.{◌>>=◌, is_sign, is_word, name_in, any_name_in, after, op_at, opted}
use Rattle.gql_front.proofs.Agree.{is_longest}
use Rattle.gql_front.proofs.Found.{Sound, exact, is_there}
use Rattle.gql_front.proofs.TableLemmas.{begins_read, read_begins, begins_shorter, word_row}
use Rattle.gql_parts.specs.Parts.{Passes, IsOptional}
use Rattle.gql_parts.specs.PartWords.{is_colon}
use Rattle.gql_parts.specs.Machinery.PartReaders.{listed, past}
use Rattle.gql_parts.specs.Machinery.FillerReaders.{variable_of}
use Rattle.gql_parts.proofs.PartLaws.{Stops, Led, left_stops, right_stops, nothing, bind_then, finish, passes_after, after_passes, passes_shorter, may_pass_shorter, stops_after, stops_op, word_apart, sign_apart, passes_stops, says_no_sign, begins_stops, optional_stops, optional_shorter, led_sound, led_exact, past_sound, past_exact}
use Rattle.gql_parts.proofs.ListLaws.{listed_sound, listed_exact}
use Rattle.gql_parts.proofs.BraceLaws.{ToBrace, to_brace_sound, to_brace_exact, to_brace_shorter}
use Rattle.gql_parts.proofs.FillerLaws.{is_name, variable_sound, variable_exact, colon_apart}
use Rattle.gql_type.specs.declared.segment.TypeSegment.{TypeSegment}
use Rattle.gql_type.specs.TypeWords.{scalar_words, scalar_word, is_typed, arrow_sign, closing_of}
use Rattle.gql_type.specs.LabelList.{BearsLabels}
use Rattle.gql_type.specs.TypeGrammar.{IsRequired, IsKind, IsProperty, BearsProperties, IsContent, IsEnd, IsSegment, IsElement, IsTypeBody}
use Rattle.gql_type.specs.Machinery.LabelListReaders.{optional_labels_of}
use Rattle.gql_type.specs.Machinery.TypeReaders.{not_null_of, required_of, list_kind_of, kind_or, kind_of, property_of, properties_of, braced_properties_of, content_of, type_node_of, end_of, bracketed_of, edge_of, segment_of, is_alone, segment_behind, made_element, element_of, type_body_of}
use Rattle.gql_type.proofs.WordsLaws.{words_sound, words_exact}
use Rattle.gql_type.proofs.LabelListLaws.{labels_sound, labels_exact, labels_shorter}

-- [NOT NULL]

required_sound : (ts : List Lexeme) → IsRequired (required_of ts).0 ts (required_of ts).1
unfolding required_of
required_sound =
    words_sound not_null_of IsRequired (λ ts. refl)
    (λ ts r e. bind_then (after (is_word word.NOT) ts) _ r e (λ a p e. (a, after_passes (is_word word.NOT) ts a p, after_passes (is_word word.NULL) a r e)))

required_exact : (q : Bool) (ts s : List Lexeme) → IsRequired q ts s → Stops (is_word word.NOT) s → required_of ts ≡ (q, s)
unfolding required_of
required_exact q ts s h stop =
    words_exact not_null_of IsRequired (λ ts r h. h) (λ ts r h. rw (passes_after (is_word word.NOT) ts h.0 h.1) (passes_after (is_word word.NULL) h.0 r h.2)) q ts s h
    (rw (stops_after (is_word word.NOT) s stop) refl)

required_shorter : (q : Bool) (ts r : List Lexeme) → IsRequired q ts r → length r ≤ length ts
required_shorter false ts r h = omega (arith, ap length h)
required_shorter true ts r h = omega (arith, passes_shorter (is_word word.NOT) ts h.0 h.1, passes_shorter (is_word word.NULL) h.0 r h.2)

-- Kinds

list_kind_sound : (ts : List Lexeme) (k : PropKind) (r : List Lexeme) → list_kind_of ts ≡ Some (k, r) → IsKind k ts r
unfolding list_kind_of
list_kind_sound ts k r e =
    bind_then (after (is_word word.LIST) ts) _ (k, r) e (λ a p e.
    bind_then (after (is_sign less) a) _ (k, r) e (λ b q e.
    bind_then (op_at scalar_word b) _ (k, r) e (λ s w e.
    bind_then (after (is_sign greater) (required_of s.1).1) _ (k, r) e (λ c j e.
    finish (λ k r. IsKind k ts r) (kind.Many s.0 (required_of s.1).0) c k r e (
      a,
      after_passes (is_word word.LIST) ts a p,
      b,
      after_passes (is_sign less) a b q,
      s.1,
      read_begins scalar_word b s.0 s.1 w,
      (required_of s.1).1,
      required_sound s.1,
      after_passes (is_sign greater) (required_of s.1).1 c j,
    )))))

kind_sound : Sound IsKind kind_of
unfolding kind_of
kind_sound ts k r e = go (op_at scalar_word ts) refl e
  where
    go : (o : Option (Scalar × List Lexeme)) → op_at scalar_word ts ≡ o → kind_or ts o ≡ Some (k, r) → IsKind k ts r
    go (Some s) p j = finish (λ k r. IsKind k ts r) (kind.One s.0) s.1 k r j (read_begins scalar_word ts s.0 s.1 p)
    go None p j = list_kind_sound ts k r j

kind_exact : (k : PropKind) (ts s : List Lexeme) → IsKind k ts s → kind_of ts ≡ Some (k, s)
unfolding kind_of list_kind_of
kind_exact (kind.One s) ts r h = ap (kind_or ts) (begins_read scalar_word s ts r h)
kind_exact (kind.Many s q) ts r h =
    let begins = passes_stops (is_word word.LIST) (λ t. is_there (scalar_word t)) (word_apart word.LIST (λ t. is_there (scalar_word t)) (λ x. refl)) ts h.0 h.1 in
    let told = required_exact q h.4 h.6 h.7 (passes_stops (is_sign greater) (is_word word.NOT) (sign_apart greater (is_word word.NOT) refl) h.6 r h.8) in
    ap (kind_or ts) (stops_op scalar_word ts begins)
    ∙ rw (passes_after (is_word word.LIST) ts h.0 h.1, passes_after (is_sign less) h.0 h.2 h.3, begins_read scalar_word s h.2 h.4 h.5)
    (ap (λ (z : Bool × List Lexeme). after (is_sign greater) z.1 >>= λ r. Some (kind.Many s z.0, r)) told
    ∙ ap (λ (o : Option (List Lexeme)). o >>= λ r. Some (kind.Many s q, r)) (passes_after (is_sign greater) h.6 r h.8))

kind_shorter : (k : PropKind) (ts r : List Lexeme) → IsKind k ts r → length r < length ts
kind_shorter (kind.One s) ts r h = begins_shorter scalar_word s ts r h
kind_shorter (kind.Many s q) ts r h =
    omega (
      arith,
      passes_shorter (is_word word.LIST) ts h.0 h.1,
      passes_shorter (is_sign less) h.0 h.2 h.3,
      begins_shorter scalar_word s h.2 h.4 h.5,
      required_shorter q h.4 h.6 h.7,
      passes_shorter (is_sign greater) h.6 r h.8,
    )

-- no kind begins with TYPED or "::"
scalar_untyped : (t : Lexeme) (s : Scalar) → scalar_word t ≡ Some s → is_typed t ≡ true → ⊥
scalar_untyped t s e i =
    let no : is_typed t ≡ false = word_row (λ t s. is_typed t ≡ false) scalar_words (λ x. (refl, (refl, (refl, (refl, (refl, (refl, tt))))))) t s e in
    cc

kind_stops : (k : PropKind) (m s : List Lexeme) → IsKind k m s → Stops is_typed m
kind_stops (kind.One x) m s h = begins_stops scalar_word is_typed scalar_untyped x m s h
kind_stops (kind.Many x q) m s h = passes_stops (is_word word.LIST) is_typed (word_apart word.LIST is_typed (λ x. refl)) m h.0 h.1

-- Properties

property_sound : Sound IsProperty property_of
unfolding property_of
property_sound ts p r e =
    bind_then (op_at any_name_in ts) _ (p, r) e (λ x q e.
    bind_then (kind_of (past is_typed x.1)) _ (p, r) e (λ k j e.
    finish (λ p r. IsProperty p ts r) (record { name = x.0; kind = k.0; required = (required_of k.1).0 }) (required_of k.1).1 p r e
    (x.1, read_begins any_name_in ts x.0 x.1 q, past is_typed x.1, past_sound is_typed x.1, k.1, kind_sound (past is_typed x.1) k.0 k.1 j, required_sound k.1)))

property_exact : (p : TypeProperty) (ts s : List Lexeme) → IsProperty p ts s → Stops (is_word word.NOT) s → property_of ts ≡ Some (p, s)
unfolding property_of
property_exact p ts s h stop =
    let typed = past_exact is_typed h.0 h.2 h.3 (kind_stops p.kind h.2 h.4 h.5) in
    let told = required_exact p.required h.4 s h.6 stop in
    rw (begins_read any_name_in p.name ts h.0 h.1, typed, kind_exact p.kind h.2 h.4 h.5)
    (ap (λ (z : Bool × List Lexeme). let found : TypeProperty = record { name = p.name; kind = p.kind; required = z.0 } in Some (found, z.1)) told)

property_shorter : (p : TypeProperty) (ts r : List Lexeme) → IsProperty p ts r → length r < length ts
property_shorter p ts r h =
    omega (
      arith,
      begins_shorter any_name_in p.name ts h.0 h.1,
      may_pass_shorter is_typed h.0 h.2 h.3,
      kind_shorter p.kind h.2 h.4 h.5,
      required_shorter p.required h.4 r h.6,
    )

-- Properties between braces

properties_sound : Sound (ToBrace IsProperty) properties_of
unfolding properties_of
properties_sound = to_brace_sound property_of IsProperty property_sound

property_starts : (p : TypeProperty) (ts r : List Lexeme) → IsProperty p ts r → Stops (is_sign closing_brace) ts
property_starts p ts r h = begins_stops any_name_in (is_sign closing_brace) (says_no_sign any_name_in closing_brace refl) p.name ts h.0 h.1

properties_exact : (ps : List TypeProperty) (ts s : List Lexeme) → ToBrace IsProperty ps ts s → properties_of ts ≡ Some (ps, s)
unfolding properties_of
properties_exact = to_brace_exact property_of IsProperty property_shorter (is_word word.NOT) refl refl property_exact property_starts

braces_back : (ps : List TypeProperty) (ts r : List Lexeme) → Led (is_sign opening_brace) (ToBrace IsProperty) ps ts r → BearsProperties ps ts r
braces_back ps ts r h = (h.0, h.1, h.2.0, h.2.1, h.2.2)

braces_forth : (ps : List TypeProperty) (ts r : List Lexeme) → BearsProperties ps ts r → Led (is_sign opening_brace) (ToBrace IsProperty) ps ts r
braces_forth ps ts r h = (h.0, h.1, (h.2, h.3, h.4))

braced_sound : Sound (IsOptional BearsProperties) braced_properties_of
unfolding braced_properties_of
braced_sound = led_sound (is_sign opening_brace) properties_of BearsProperties (ToBrace IsProperty) braces_back braces_forth properties_sound

braced_exact : (ps : Option (List TypeProperty)) (ts s : List Lexeme) → IsOptional BearsProperties ps ts s → Stops (is_sign opening_brace) s → braced_properties_of ts ≡ Some (ps, s)
unfolding braced_properties_of
braced_exact ps ts s h stop =
    led_exact (is_sign opening_brace) properties_of BearsProperties (ToBrace IsProperty) braces_back braces_forth ps ts s (λ x a k. properties_exact x a s k) h stop

bears_shorter : (ps : List TypeProperty) (ts r : List Lexeme) → BearsProperties ps ts r → length r < length ts
bears_shorter ps ts r h =
    omega (arith, passes_shorter (is_sign opening_brace) ts h.0 h.1, to_brace_shorter property_of IsProperty property_shorter ps h.0 r (h.2, h.3, h.4))

-- Content

content_sound : Sound IsContent content_of
unfolding content_of
content_sound ts b r e =
    bind_then (optional_labels_of ts) _ (b, r) e (λ l p e.
    bind_then (braced_properties_of l.1) _ (b, r) e (λ q k e.
    finish (λ b r. IsContent b ts r) (record { labels = l.0; properties = q.0 }) q.1 b r e (l.1, labels_sound ts l.0 l.1 p, braced_sound l.1 q.0 q.1 k)))

-- content may go on with these
abbrev goes_content : Lexeme → Bool
goes_content t = is_colon t || (is_sign ampersand t || is_sign opening_brace t)

content_exact : (b : ElementBody) (ts s : List Lexeme) → IsContent b ts s → Stops goes_content s → content_of ts ≡ Some (b, s)
unfolding content_of
content_exact b ts s h stop =
    let back = right_stops is_colon (λ t. is_sign ampersand t || is_sign opening_brace t) s stop in
    let behind_labels : (g : Lexeme → Bool) → g (lex.Sign opening_brace) ≡ false → Stops g s → Stops g h.0 =
    λ g brace stop. optional_stops BearsProperties g b.properties h.0 s (λ m k. passes_stops (is_sign opening_brace) g (sign_apart opening_brace g brace) h.0 k.0 k.1) h.2 stop in
    rw (
      labels_exact b.labels ts h.0 h.1
          (behind_labels is_colon refl (left_stops is_colon (λ t. is_sign ampersand t || is_sign opening_brace t) s stop))
          (behind_labels (is_sign ampersand) refl (left_stops (is_sign ampersand) (is_sign opening_brace) s back)),
      braced_exact b.properties h.0 s h.2 (right_stops (is_sign ampersand) (is_sign opening_brace) s back),
    ) refl

content_shorter : (b : ElementBody) (ts r : List Lexeme) → IsContent b ts r → length r ≤ length ts
content_shorter b ts r h = omega (arith, labels_shorter b.labels ts h.0 h.1, optional_shorter BearsProperties bears_shorter b.properties h.0 r h.2)

-- no name stands before a content that no name follows
content_stops : (b : ElementBody) (m s : List Lexeme) → IsContent b m s → Stops is_name s → Stops is_name m
content_stops b m s h stop =
    optional_stops BearsLabels is_name b.labels m h.0 (λ l k. passes_stops is_colon is_name (colon_apart is_name refl (λ x. refl)) m k.0 k.1) h.1
    (optional_stops BearsProperties is_name b.properties h.0 s (λ p k. passes_stops (is_sign opening_brace) is_name (sign_apart opening_brace is_name refl) h.0 k.0 k.1) h.2 stop)

content_ends : (last : ℕ) → goes_content (lex.Sign last) ≡ false → (m r : List Lexeme) → Passes (is_sign last) m r → Stops goes_content m
content_ends last none m r h = passes_stops (is_sign last) goes_content (sign_apart last goes_content none) m r h

-- What stands between parentheses

abbrev IsNode : Option (List ℕ) → ElementBody → List Lexeme → List Lexeme → Type 0
IsNode x b ts r = IsElement (element.Node x b) ts r

node_sound : (ts : List Lexeme) (n : Option (List ℕ) × ElementBody) (r : List Lexeme) → type_node_of ts ≡ Some (n, r) → IsNode n.0 n.1 ts r
unfolding type_node_of
node_sound ts n r e =
    bind_then (after (is_sign opening) ts) _ (n, r) e (λ a p e.
    bind_then (variable_of a) _ (n, r) e (λ x q e.
    bind_then (content_of x.1) _ (n, r) e (λ b k e.
    bind_then (after (is_sign closing) b.1) _ (n, r) e (λ c j e.
    finish (λ n r. IsNode n.0 n.1 ts r) (x.0, b.0) c n r e
    (a, after_passes (is_sign opening) ts a p, x.1, variable_sound a x.0 x.1 q, b.1, content_sound x.1 b.0 b.1 k, after_passes (is_sign closing) b.1 c j)))))

node_exact : (x : Option (List ℕ)) (b : ElementBody) (ts s : List Lexeme) → IsNode x b ts s → type_node_of ts ≡ Some ((x, b), s)
unfolding type_node_of
node_exact x b ts s h =
    rw (
      passes_after (is_sign opening) ts h.0 h.1,
      variable_exact x h.0 h.2 h.3 (content_stops b h.2 h.4 h.5 (passes_stops (is_sign closing) is_name (sign_apart closing is_name refl) h.4 s h.6)),
      content_exact b h.2 h.4 h.5 (content_ends closing refl h.4 s h.6),
      passes_after (is_sign closing) h.4 s h.6,
    ) refl

node_shorter : (x : Option (List ℕ)) (b : ElementBody) (ts r : List Lexeme) → IsNode x b ts r → length r < length ts
node_shorter x b ts r h =
    omega (
      arith,
      passes_shorter (is_sign opening) ts h.0 h.1,
      optional_shorter (Begins name_in) (begins_shorter name_in) x h.0 h.2 h.3,
      content_shorter b h.2 h.4 h.5,
      passes_shorter (is_sign closing) h.4 r h.6,
    )

-- Ends

end_sound : Sound IsEnd end_of
unfolding end_of
end_sound ts x r e =
    bind_then (after (is_sign opening) ts) _ (x, r) e (λ a p e.
    bind_then (op_at name_in a) _ (x, r) e (λ y q e.
    bind_then (after (is_sign closing) y.1) _ (x, r) e (λ c j e.
    finish (λ x r. IsEnd x ts r) y.0 c x r e (a, after_passes (is_sign opening) ts a p, y.1, read_begins name_in a y.0 y.1 q, after_passes (is_sign closing) y.1 c j))))

end_exact : (x : List ℕ) (ts s : List Lexeme) → IsEnd x ts s → end_of ts ≡ Some (x, s)
unfolding end_of
end_exact x ts s h = rw (passes_after (is_sign opening) ts h.0 h.1, begins_read name_in x h.0 h.2 h.3, passes_after (is_sign closing) h.2 s h.4) refl

end_shorter : (x : List ℕ) (ts r : List Lexeme) → IsEnd x ts r → length r < length ts
end_shorter x ts r h = omega (arith, passes_shorter (is_sign opening) ts h.0 h.1, begins_shorter name_in x h.0 h.2 h.3, passes_shorter (is_sign closing) h.2 r h.4)

-- Segments

abbrev IsBracketed : ElementBody → List Lexeme → List Lexeme → Type 0
IsBracketed b ts r = (a : List Lexeme) × Passes (is_sign opening_bracket) ts a × (c : List Lexeme) × IsContent b a c × Passes (is_sign closing_bracket) c r

bracketed_sound : Sound IsBracketed bracketed_of
unfolding bracketed_of
bracketed_sound ts b r e =
    bind_then (after (is_sign opening_bracket) ts) _ (b, r) e (λ a p e.
    bind_then (content_of a) _ (b, r) e (λ x q e.
    bind_then (after (is_sign closing_bracket) x.1) _ (b, r) e (λ c j e.
    finish (λ b r. IsBracketed b ts r) x.0 c b r e (a, after_passes (is_sign opening_bracket) ts a p, x.1, content_sound a x.0 x.1 q, after_passes (is_sign closing_bracket) x.1 c j))))

bracketed_exact : (b : ElementBody) (ts s : List Lexeme) → IsBracketed b ts s → bracketed_of ts ≡ Some (b, s)
unfolding bracketed_of
bracketed_exact b ts s h =
    rw (
      passes_after (is_sign opening_bracket) ts h.0 h.1,
      content_exact b h.0 h.2 h.3 (content_ends closing_bracket refl h.2 s h.4),
      passes_after (is_sign closing_bracket) h.2 s h.4,
    ) refl

abbrev IsArrowed : Arrow × ElementBody → List Lexeme → List Lexeme → Type 0
IsArrowed e ts r = (a : List Lexeme) × Begins arrow_sign e.0 ts a × (b : List Lexeme) × IsBracketed e.1 a b × Passes (is_sign (closing_of e.0)) b r

edge_sound : Sound IsArrowed edge_of
unfolding edge_of
edge_sound ts x r e =
    bind_then (op_at arrow_sign ts) _ (x, r) e (λ w p e.
    bind_then (bracketed_of w.1) _ (x, r) e (λ b q e.
    bind_then (after (is_sign (closing_of w.0)) b.1) _ (x, r) e (λ c j e.
    finish (λ x r. IsArrowed x ts r) (w.0, b.0) c x r e
    (w.1, read_begins arrow_sign ts w.0 w.1 p, b.1, bracketed_sound w.1 b.0 b.1 q, after_passes (is_sign (closing_of w.0)) b.1 c j))))

edge_exact : (x : Arrow × ElementBody) (ts s : List Lexeme) → IsArrowed x ts s → edge_of ts ≡ Some (x, s)
unfolding edge_of
edge_exact x ts s h = rw (begins_read arrow_sign x.0 ts h.0 h.1, bracketed_exact x.1 h.0 h.2 h.3, passes_after (is_sign (closing_of x.0)) h.2 s h.4) refl

abbrev IsSegmentData : TypeSegment → List Lexeme → List Lexeme → Type 0
IsSegmentData s ts r = IsSegment s.arrow s.body s.target ts r

segment_sound : Sound IsSegmentData segment_of
unfolding segment_of
segment_sound ts s r e =
    bind_then (edge_of ts) _ (s, r) e (λ x p e.
    bind_then (end_of x.1) _ (s, r) e (λ y q e.
    let found : TypeSegment = record { arrow = x.0.0; body = x.0.1; target = y.0 } in
    let k = edge_sound ts x.0 x.1 p in
    finish (λ s r. IsSegmentData s ts r) found y.1 s r e
    (k.0, k.1, k.3.0, k.3.1, k.3.2, k.3.3, k.2, k.3.4, x.1, k.4, end_sound x.1 y.0 y.1 q)))

segment_exact : (s : TypeSegment) (ts r : List Lexeme) → IsSegmentData s ts r → segment_of ts ≡ Some (s, r)
unfolding segment_of
segment_exact s ts r h =
    rw (edge_exact (s.arrow, s.body) ts h.8 (h.0, h.1, h.6, (h.2, h.3, h.4, h.5, h.7), h.9), end_exact s.target h.8 r h.10) refl

segment_shorter : (w : Arrow) (b : ElementBody) (y : List ℕ) (ts r : List Lexeme) → IsSegment w b y ts r → length r < length ts
segment_shorter w b y ts r h =
    omega (
      arith,
      begins_shorter arrow_sign w ts h.0 h.1,
      passes_shorter (is_sign opening_bracket) h.0 h.2 h.3,
      content_shorter b h.2 h.4 h.5,
      passes_shorter (is_sign closing_bracket) h.4 h.6 h.7,
      passes_shorter (is_sign (closing_of w)) h.6 h.8 h.9,
      end_shorter y h.8 r h.10,
    )

-- an element may go on with these
abbrev goes_element : Lexeme → Bool
goes_element t = is_there (arrow_sign t)

no_segment : (s : List Lexeme) → Stops goes_element s → segment_of s ≡ None
unfolding segment_of edge_of
no_segment s stop = rw (stops_op arrow_sign s stop) refl

-- Elements

-- an alias alone between parentheses is an end
alone_end : (x : Option (List ℕ)) (ls : Option (List (List ℕ))) (ps : Option (List TypeProperty)) (ts r : List Lexeme) → is_alone x (record { labels = ls; properties = ps }) ≡ true
    → IsNode x (record { labels = ls; properties = ps }) ts r → (y : List ℕ) × (x ≡ Some y) × IsEnd y ts r
alone_end (Some y) None None ts r alone h =
    (y, refl, (h.0, h.1, h.2, h.3, subst (λ z. Passes (is_sign closing) z r) (sym (h.5.1 ∙ h.5.2)) h.6))
alone_end None ls ps ts r alone h = absurd (cc)
alone_end (Some y) (Some ls) ps ts r alone h = absurd (cc)
alone_end (Some y) None (Some ps) ts r alone h = absurd (cc)

end_alone : (y : List ℕ) (ts r : List Lexeme) → IsEnd y ts r → IsNode (Some y) (record { labels = None; properties = None }) ts r
end_alone y ts r h = (h.0, h.1, h.2, h.3, h.2, (h.2, refl, refl), h.4)

element_case : (x : Option (List ℕ)) (b : ElementBody) (alone : Bool) (ts m : List Lexeme) → is_alone x b ≡ alone → IsNode x b ts m
    → (o : Option (TypeSegment × List Lexeme)) → segment_of m ≡ o
    → IsElement (made_element (if alone then opted m o else (None, m)).0 x b) ts (if alone then opted m o else (None, m)).1
element_case x b false ts m p h o e = h
element_case x b true ts m p h None e = h
element_case x b true ts m p h (Some s) e =
    let found = alone_end x b.labels b.properties ts m p h in
    let edge : IsElement (element.Edge found.0 s.0.arrow s.0.body s.0.target) ts s.1 = (m, found.2, segment_sound m s.0 s.1 e) in
    subst (λ (z : Option (List ℕ)). IsElement (made_element (Some s.0) z b) ts s.1) (sym found.1) edge

element_sound : Sound IsElement element_of
unfolding element_of
element_sound ts x r e =
    bind_then (type_node_of ts) _ (x, r) e (λ n p e.
    finish (λ x r. IsElement x ts r) (made_element (segment_behind n.0.0 n.0.1 n.1).0 n.0.0 n.0.1) (segment_behind n.0.0 n.0.1 n.1).1 x r e
    (element_case n.0.0 n.0.1 (is_alone n.0.0 n.0.1) ts n.1 refl (node_sound ts n.0 n.1 p) (segment_of n.1) refl))

no_segment_behind : (alone : Bool) (m : List Lexeme) → segment_of m ≡ None → ◌≡◌ {A = Option TypeSegment × List Lexeme} (if alone then opted m (segment_of m) else (None, m)) (None, m)
no_segment_behind true m e = ap (opted m) e
no_segment_behind false m e = refl

element_exact : (x : TypeElement) (ts s : List Lexeme) → IsElement x ts s → Stops goes_element s → element_of ts ≡ Some (x, s)
unfolding element_of
element_exact (element.Node x b) ts s h stop =
    let behind = no_segment_behind (is_alone x b) s (no_segment s stop) in
    rw (node_exact x b ts s h) (ap (λ (z : Option TypeSegment × List Lexeme). Some (made_element z.0 x b, z.1)) behind)
element_exact (element.Edge x w b y) ts s h stop =
    let found : TypeSegment = record { arrow = w; body = b; target = y } in
    let blank : ElementBody = record { labels = None; properties = None } in
    rw (node_exact (Some x) blank ts h.0 (end_alone x ts h.0 h.1))
    (ap (λ (o : Option (TypeSegment × List Lexeme)). Some (made_element (opted h.0 o).0 (Some x) blank, (opted h.0 o).1)) (segment_exact found h.0 s h.2))

element_shorter : (x : TypeElement) (ts r : List Lexeme) → IsElement x ts r → length r < length ts
element_shorter (element.Node x b) ts r h = node_shorter x b ts r h
element_shorter (element.Edge x w b y) ts r h = omega (arith, end_shorter x ts h.0 h.1, segment_shorter w b y h.0 r h.2)

-- Bodies

pub type_sound : Sound IsTypeBody type_body_of
unfolding type_body_of
type_sound ts b r e =
    bind_then (after (is_sign opening_brace) ts) _ (b, r) e (λ a p e.
    bind_then (listed element_of a) _ (b, r) e (λ es q e.
    bind_then (after (is_sign closing_brace) es.1) _ (b, r) e (λ c j e.
    finish (λ b r. IsTypeBody b ts r) (record { elements = es.0 }) c b r e
    (a, after_passes (is_sign opening_brace) ts a p, es.1, listed_sound element_of IsElement element_sound a es.0 es.1 q, after_passes (is_sign closing_brace) es.1 c j))))

pub type_exact : (b : TypeBody) (ts s : List Lexeme) → IsTypeBody b ts s → type_body_of ts ≡ Some (b, s)
unfolding type_body_of
type_exact b ts s h =
    let read = listed_exact element_of IsElement goes_element refl element_shorter element_exact b.elements h.0 h.2 h.3
    (passes_stops (is_sign closing_brace) goes_element (sign_apart closing_brace goes_element refl) h.2 s h.4)
    (passes_stops (is_sign closing_brace) (is_sign comma) (sign_apart closing_brace (is_sign comma) refl) h.2 s h.4) in
    rw (passes_after (is_sign opening_brace) ts h.0 h.1, read, passes_after (is_sign closing_brace) h.2 s h.4) refl

pub type_longest : (ts : List Lexeme) → Longest IsTypeBody ts (type_body_of ts)
type_longest ts = is_longest IsTypeBody nothing ts (type_body_of ts) (type_sound ts) (λ b s h. exact (type_exact b ts s h))
