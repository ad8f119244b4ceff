-- What a record says, without where it lies in memory.
use Rattle.gql_rowcode.specs.Records as records
use Rattle.gql_rowcode.specs.declared.form.Form.{Form}
use Rattle.gql_rowcode.specs.declared.form.Form.TheVariants.{Version, Kind, Graph, Node, Edge}

abbrev pub form_of : Form → records.Form
form_of Version = records.version
form_of (Kind name kind) = records.graph_type name.now kind
form_of (Graph name kind next_node next_edge) = records.graph name.now kind next_node next_edge
form_of (Node name node) = records.node name.now node
form_of (Edge name edge) = records.edge name.now edge
