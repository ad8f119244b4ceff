-- What a value means that is lent or owned.
use Rattle.gql_values3.specs.Datum.{Datum}
use Rattle.gql_values3.specs.Meaning.{datum_of}
use Rattle.gql_eval.specs.declared.cow.CowValue.{CowValue}
use Rattle.gql_eval.specs.declared.cow.CowValue.TheVariants as cow

-- its datum, whoever owns it
abbrev pub cow_datum : CowValue → Datum
cow_datum (cow.Owned v) = datum_of v
cow_datum (cow.Borrowed v) = datum_of v.now
