use Rattle.std.proofs.lemmas.Str.{IsCharBoundary-after_ascii}
use Rattle.gql_ast.proofs.text.escapes.cut_at.Goals as goal

pub split_at-requires-2 : goal.split_at-requires-2
split_at-requires-2 c = IsCharBoundary-after_ascii c.args.characters.now c.args.at c.utf8.characters c.requires.within c.requires.ascii
