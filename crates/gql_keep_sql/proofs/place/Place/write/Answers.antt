use Rattle.gql_keep_sql.proofs.place.Place.write.Goals as goal

pub returns-in-File-clause-refused : goal.returns-in-File-clause-refused
returns-in-File-clause-refused g c = rw c.in-File.is c.write-in-File.ensures.refused
