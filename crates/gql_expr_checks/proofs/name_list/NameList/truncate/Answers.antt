use Rattle.std.proofs.Common.{◌∙◌, ap, map, take}
use Rattle.std.specs.String.{string_bytes}
use Rattle.gql_expr_checks.proofs.NameListLemmas.{take_keys}
use Rattle.gql_expr_checks.proofs.name_list.NameList.truncate.Goals as goal

pub returns : goal.returns
returns c =
    ap (map string_bytes) c.truncate.ensures.keys ∙ take_keys c.args.count c.self.inside.set.keys ∙ ap (take c.args.count) c.self.view_is
