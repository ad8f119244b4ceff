-- WordPlaces: each reserved word's place among the reserved words.
use Rattle.std.specs.Prelude.{ℕ}

-- the words in the order of the alphabet, from place 0 on
abbrev pub ABS : ℕ
ABS = 0

abbrev pub ACYCLIC : ℕ
ACYCLIC = 1

abbrev pub ALL : ℕ
ALL = 2

abbrev pub AND : ℕ
AND = 3

abbrev pub ANY : ℕ
ANY = 4

abbrev pub AS : ℕ
AS = 5

abbrev pub ASC : ℕ
ASC = 6

abbrev pub ASCENDING : ℕ
ASCENDING = 7

abbrev pub BOOL : ℕ
BOOL = 8

abbrev pub BOOLEAN : ℕ
BOOLEAN = 9

abbrev pub BY : ℕ
BY = 10

abbrev pub CARDINALITY : ℕ
CARDINALITY = 11

abbrev pub CHAR_LENGTH : ℕ
CHAR_LENGTH = 12

abbrev pub CLOSE : ℕ
CLOSE = 13

abbrev pub COALESCE : ℕ
COALESCE = 14

abbrev pub COLLECT_LIST : ℕ
COLLECT_LIST = 15

abbrev pub COLUMNS : ℕ
COLUMNS = 16

abbrev pub COMMIT : ℕ
COMMIT = 17

abbrev pub COUNT : ℕ
COUNT = 18

abbrev pub CREATE : ℕ
CREATE = 19

abbrev pub DATE : ℕ
DATE = 20

abbrev pub DELETE : ℕ
DELETE = 21

abbrev pub DESC : ℕ
DESC = 22

abbrev pub DESCENDING : ℕ
DESCENDING = 23

abbrev pub DESTINATION : ℕ
DESTINATION = 24

abbrev pub DETACH : ℕ
DETACH = 25

abbrev pub DIFFERENT : ℕ
DIFFERENT = 26

abbrev pub DIRECTED : ℕ
DIRECTED = 27

abbrev pub DISTINCT : ℕ
DISTINCT = 28

abbrev pub DROP : ℕ
DROP = 29

abbrev pub EDGES : ℕ
EDGES = 30

abbrev pub ELEMENTS : ℕ
ELEMENTS = 31

abbrev pub EXCEPT : ℕ
EXCEPT = 32

abbrev pub EXISTS : ℕ
EXISTS = 33

abbrev pub FALSE : ℕ
FALSE = 34

abbrev pub FILTER : ℕ
FILTER = 35

abbrev pub FIRST : ℕ
FIRST = 36

abbrev pub FOR : ℕ
FOR = 37

abbrev pub FROM : ℕ
FROM = 38

abbrev pub GRAPH : ℕ
GRAPH = 39

abbrev pub GRAPH_TABLE : ℕ
GRAPH_TABLE = 40

abbrev pub GROUP : ℕ
GROUP = 41

abbrev pub GROUPS : ℕ
GROUPS = 42

abbrev pub IF : ℕ
IF = 43

abbrev pub IN : ℕ
IN = 44

abbrev pub INSERT : ℕ
INSERT = 45

abbrev pub INT : ℕ
INT = 46

abbrev pub INT64 : ℕ
INT64 = 47

abbrev pub INTEGER : ℕ
INTEGER = 48

abbrev pub INTERSECT : ℕ
INTERSECT = 49

abbrev pub IS : ℕ
IS = 50

abbrev pub LABELED : ℕ
LABELED = 51

abbrev pub LAST : ℕ
LAST = 52

abbrev pub LET : ℕ
LET = 53

abbrev pub LIMIT : ℕ
LIMIT = 54

abbrev pub LIST : ℕ
LIST = 55

abbrev pub MATCH : ℕ
MATCH = 56

abbrev pub MAX : ℕ
MAX = 57

abbrev pub MIN : ℕ
MIN = 58

abbrev pub MOD : ℕ
MOD = 59

abbrev pub NEXT : ℕ
NEXT = 60

abbrev pub NODETACH : ℕ
NODETACH = 61

abbrev pub NOT : ℕ
NOT = 62

abbrev pub NULL : ℕ
NULL = 63

abbrev pub NULLS : ℕ
NULLS = 64

abbrev pub OF : ℕ
OF = 65

abbrev pub OFFSET : ℕ
OFFSET = 66

abbrev pub ONLY : ℕ
ONLY = 67

abbrev pub OPTIONAL : ℕ
OPTIONAL = 68

abbrev pub OR : ℕ
OR = 69

abbrev pub ORDER : ℕ
ORDER = 70

abbrev pub ORDINALITY : ℕ
ORDINALITY = 71

abbrev pub OTHERWISE : ℕ
OTHERWISE = 72

abbrev pub PATH : ℕ
PATH = 73

abbrev pub PATHS : ℕ
PATHS = 74

abbrev pub PATH_LENGTH : ℕ
PATH_LENGTH = 75

abbrev pub PROPERTY : ℕ
PROPERTY = 76

abbrev pub READ : ℕ
READ = 77

abbrev pub REMOVE : ℕ
REMOVE = 78

abbrev pub REPEATABLE : ℕ
REPEATABLE = 79

abbrev pub RESET : ℕ
RESET = 80

abbrev pub RETURN : ℕ
RETURN = 81

abbrev pub ROLLBACK : ℕ
ROLLBACK = 82

abbrev pub SELECT : ℕ
SELECT = 83

abbrev pub SESSION : ℕ
SESSION = 84

abbrev pub SET : ℕ
SET = 85

abbrev pub SHORTEST : ℕ
SHORTEST = 86

abbrev pub SIMPLE : ℕ
SIMPLE = 87

abbrev pub SKIP : ℕ
SKIP = 88

abbrev pub SOURCE : ℕ
SOURCE = 89

abbrev pub START : ℕ
START = 90

abbrev pub STRING : ℕ
STRING = 91

abbrev pub SUM : ℕ
SUM = 92

abbrev pub TRAIL : ℕ
TRAIL = 93

abbrev pub TRANSACTION : ℕ
TRANSACTION = 94

abbrev pub TRUE : ℕ
TRUE = 95

abbrev pub TYPE : ℕ
TYPE = 96

abbrev pub TYPED : ℕ
TYPED = 97

abbrev pub UNION : ℕ
UNION = 98

abbrev pub UNKNOWN : ℕ
UNKNOWN = 99

abbrev pub VALUE : ℕ
VALUE = 100

abbrev pub WALK : ℕ
WALK = 101

abbrev pub WHERE : ℕ
WHERE = 102

abbrev pub WITH : ℕ
WITH = 103

abbrev pub WRITE : ℕ
WRITE = 104

abbrev pub XOR : ℕ
XOR = 105
