use Rattle.std.proofs.Common.{◌≡◌, ◌<◌, ◌≤◌, map, flat_map, length, sym, ap, ◌∙◌, arith}
use Rattle.std.proofs.lemmas.Result.{IfOk-weaker}
use Rattle.gql_norm.specs.NewColumns.{columns_after, columns_by, degree_in_paths, path_name_column}
use Rattle.gql_norm.specs.NormalData.{part_data, path_data, pattern_data}
use Rattle.gql_norm.specs.Machinery.ColumnGrowth.{declared_in, with_columns}
use Rattle.gql_norm.specs.declared.path.NormalPath.{NormalPath as CodePath}
use Rattle.gql_norm.proofs.ColumnLemmas.{added_path, all_paths, with_columns_both, with_columns_new}
use Rattle.gql_combine.specs.declared.names.PathNames.{PathNames}
use Rattle.gql_combine.specs.Machinery.Cells.{by_degrees}
use Rattle.gql_combine.specs.Machinery.PartDegrees.{part_degree}
use Rattle.gql_combine.specs.Machinery.PathNames.{NamesData, names_of_path}
use Rattle.gql_combine.proofs.DeclaredLemmas.{columns_of}
use Rattle.gql_combine.proofs.NamesLemmas.{AreNames, as_many_names, names_there}
use Rattle.gql_combine.proofs.columns.columns_by.Goals as goal

pub bounds-names-i : goal.bounds-names-i
bounds-names-i c =
    let paths = c.as_slice-paths.result.now in
    let all : AreNames c.args.names.now paths = c.requires.names ∙ ap (λ ps. map names_of_path (map path_data ps)) (sym c.as_slice-paths.ensures) in
    let many : length c.args.names.now ≡ length paths = as_many_names c.args.names.now paths all in
    omega (arith, many, c.loop-i-test.true)

pub loop-i-preserved : goal.loop-i-preserved
loop-i-preserved c =
    let paths = c.as_slice-paths.result.now in
    let all = map path_data paths in
    let path = c.index-paths-i.result in
    let below : c.loop-i.i < length paths = omega (arith, c.loop-i-test.true) in
    let all_named : AreNames c.args.names.now paths = c.requires.names ∙ ap (λ ps. map names_of_path (map path_data ps)) (sym c.as_slice-paths.ensures) in
    let own = names_there c.args.names.now paths c.loop-i.i c.index-names-i.result path all_named below c.index-names-i.is c.index-paths-i.is in
    let degrees : part_degree c.args.degrees.now ≡ degree_in_paths all = λ i x. (c.requires.degrees x ∙ ap (λ ps. degree_in_paths (map path_data ps) x) (sym c.as_slice-paths.ensures)) i in
    let named : c.add_path_name.new.known ≡ with_columns c.loop-i.known (path_name_column path.name) =
    c.in_ok-add_path_name.ensures ∙ ap (λ (p : CodePath). with_columns c.loop-i.known (path_name_column p.name)) (sym c.index-paths-i.is) in
    let declared : c.as_slice-in-loop-i.result.now ≡ declared_in (part_data path.body) =
    c.as_slice-in-loop-i.ensures ∙ ap (λ (n : PathNames). n.declared) (sym c.index-names-i.is) ∙ ap (λ (n : NamesData). n.declared) own in
    added_path all c.loop-i.known c.add_variables.new.known paths c.loop-i.i path below c.index-paths-i.is
    (c.in_ok-add_variables.ensures
    ∙ (λ i. with_columns (named i) (by_degrees (degrees i) (declared i)))
    ∙ sym (with_columns_both c.loop-i.known (path_name_column path.name) (by_degrees (degree_in_paths all) (declared_in (part_data path.body))))
    ∙ ap (with_columns c.loop-i.known) (sym (columns_of (degree_in_paths all) (path_data path))))
    ∙ c.loop-i.invariant

pub returns : goal.returns
returns c =
    let paths = c.as_slice-paths.result.now in
    let columns = c.args.columns.now in
    let all = map path_data paths in
    let over : length paths ≤ c.loop-i.i = omega arith in
    c.into_columns.ensures ∙ sym (all_paths all c.loop-i.known paths c.loop-i.i over) ∙ c.loop-i.invariant
    ∙ with_columns_new columns (flat_map (columns_by (degree_in_paths all)) all)
    ∙ ap (λ ps. columns_after columns (record { paths = map path_data ps; condition = (pattern_data c.args.pattern.now).condition })) c.as_slice-paths.ensures
