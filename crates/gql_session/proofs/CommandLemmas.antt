-- What the ports tell of a command that the words are.
use Rattle.std.proofs.Common.{◌≡◌, ℕ, true, List, [], Option, Some, None, refl, sym, ap, ◌∙◌, subst}
use Rattle.std.specs.Prelude.{unwrap_or, option_map, if◌then◌else◌}
use Rattle.std.proofs.lemmas.Cmp.{nat_list_eq_equiv}
use Rattle.gql_ports.specs.Told.{Content}
use Rattle.gql_ports.specs.Held.{Holding, same_name, held_after_opening}
use Rattle.gql_ports.specs.declared.stored.Record.{Record}
use Rattle.gql_txn.specs.Keeps.{IsSameStore}
use Rattle.gql_session.specs.Words.{Command, command_of, store_of, session_of}
use Rattle.gql_session.specs.RunEnds.{HoldsText, IsTextOf, SessionTells, StoreTells, SourceTells}

-- words are one command, or none
pub not_both : {command : Option Command} {x : Command} → None ≡ command → command ≡ Some x → ⊥
not_both p q = let r = p ∙ q in cc

pub one_or_none : {command : Option Command} (x : Command) → Some x ≡ command → command ≡ None → ⊥
one_or_none x p q = let r = p ∙ q in cc

pub one_command : {command : Option Command} (x y : Command) → Some x ≡ command → command ≡ Some y → y ≡ x
one_command x y p q = ap (λ o. unwrap_or o x) (sym (p ∙ q))

pub text_told : {words : List (List ℕ)} {source : Option Content} {text : List ℕ} (x : Command) → Some x ≡ command_of words → SessionTells words source text → IsTextOf x source text
text_told {source = source} {text = text} x p t =
    let P : Command → Type 0 = λ c. IsTextOf c source text in
    subst P (one_command x t.command p t.is_command) t.text_is

pub session_told : {words : List (List ℕ)} {source : Option Content} {c : Content} (x : Command) → Some x ≡ command_of words → SourceTells words source c → session_of x ≡ Some c.name
session_told x p t = sym (ap session_of (one_command x t.command p t.is_command)) ∙ t.name_is

-- what the source of a file's text tells
abbrev pub content_of : {name : List ℕ} {source : Option Content} {text : List ℕ} → HoldsText name source text → Content
content_of {name = name} {text = text} t = record { name = name; ready = t.ready; left = text }

-- the holding of these records under this name
abbrev pub holding : Option (List ℕ) → List Record → Holding
holding name records = record { name = name; records = records }

pub store_told : {words : List (List ℕ)} {held : Option Holding} {records : List Record} (x : Command) → Some x ≡ command_of words → StoreTells words held records → held ≡ Some (holding (store_of x) records)
store_told {records = records} x p t = t.keeper_is ∙ ap (λ c. Some (holding (store_of c) records)) (one_command x t.command p t.is_command)

-- the same name, told otherwise
pub named : (held : Option Holding) (name other : Option (List ℕ)) (records : List Record) → other ≡ name → held ≡ Some (holding name records) → held ≡ Some (holding other records)
named held name other records p k = k ∙ ap (λ n. Some (holding n records)) (sym p)

-- Opening under its own name

own_name : (name : Option (List ℕ)) → same_name name name ≡ true
own_name None = refl
own_name (Some n) = nat_list_eq_equiv.refl n

pub opened : (name : Option (List ℕ)) (records : List Record) (old new : Option Holding) → old ≡ Some (holding name records) → new ≡ option_map (held_after_opening name) old → new ≡ Some (holding name records)
opened name records old new k p =
    p ∙ ap (option_map (held_after_opening name)) k ∙ ap (λ b. Some (if b then holding name records else holding name [])) (own_name name)

-- The same store

pub same_again : (held : Option Holding) → IsSameStore held held
same_again None = tt
same_again (Some h) = refl

-- what is held is the same
pub same_as_held : (a b : Option Holding) → b ≡ a → IsSameStore a b
same_as_held a b p = let P : Option Holding → Type 0 = λ h. IsSameStore a h in subst P (sym p) (same_again a)

pub same_then : (a b c : Option Holding) → IsSameStore a b → IsSameStore b c → IsSameStore a c
same_then None None None p q = tt
same_then None None (Some z) p q = absurd q
same_then None (Some y) c p q = absurd p
same_then (Some x) None c p q = absurd p
same_then (Some x) (Some y) None p q = absurd q
same_then (Some x) (Some y) (Some z) p q = q ∙ p
