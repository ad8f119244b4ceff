use Rattle.std.proofs.Common.{refl}
use Rattle.gql_values3.specs.Names.{reserved_words, ascii_upper}
use Rattle.gql_values3.proofs.WordLemmas.{position-unlike, is_sized, is_sized-short, is_sized-long}
use Rattle.gql_values3.proofs.names.reserved_place.Goals as goal

pub returns-then-text-lt2 : goal.returns-then-text-lt2
unfolding reserved_words
returns-then-text-lt2 c = position-unlike is_sized reserved_words (ascii_upper c.args.text.now) refl (is_sized-short c.args.text.now c.if-text-lt2.true)

pub returns-then-text-gt12 : goal.returns-then-text-gt12
unfolding reserved_words
returns-then-text-gt12 c = position-unlike is_sized reserved_words (ascii_upper c.args.text.now) refl (is_sized-long c.args.text.now c.if-text-gt12.true)

pub returns : goal.returns
unfolding reserved_words
returns c = rw (c.place_among.ensures, c.as_slice.ensures) refl
