-- The lines of Prometheus' text format for counts.
use Rattle.std.specs.Prelude.{ℕ, List, [], ◌∷◌, ◌++◌, ◌==◌, codes, decimal, flat_map, if◌then◌else◌}
use Rattle.lb_proxy.specs.declared.metrics.Label.{Label}
use Rattle.lb_proxy.specs.declared.metrics.MetricKind.{MetricKind}
use Rattle.lb_proxy.specs.declared.metrics.MetricKind.TheVariants.{Counter, Gauge}

-- a byte of what a label says: a quote, a backslash and a line feed are escaped by a backslash
abbrev pub escaped : ℕ → List ℕ
escaped byte =
    if byte == 34 then 92 ∷ 34 ∷ [] else
    if byte == 92 then 92 ∷ 92 ∷ [] else
    if byte == 10 then 92 ∷ 110 ∷ [] else byte ∷ []

-- a label: its name, and what it says in quotes
abbrev pub label_text : Label → List ℕ
label_text label = label.name.now ++ codes "=\"" ++ flat_map escaped label.value.now ++ codes "\""

abbrev pub more_labels : List Label → List ℕ
more_labels labels = flat_map (λ label. codes "," ++ label_text label) labels

-- labels, with commas between them
abbrev pub labels_text : List Label → List ℕ
labels_text [] = []
labels_text (label ∷ labels) = label_text label ++ more_labels labels

abbrev pub kind_text : MetricKind → List ℕ
kind_text Counter = codes " counter\n"
kind_text Gauge = codes " gauge\n"

-- the line before the values of a metric, and the line of a value
abbrev pub head_text : List ℕ → MetricKind → List ℕ
head_text name kind = codes "# TYPE " ++ name ++ kind_text kind

abbrev pub value_text : List ℕ → List Label → ℕ → List ℕ
value_text name labels value = name ++ codes "{" ++ labels_text labels ++ codes "} " ++ decimal value ++ codes "\n"

-- the byte that an escape means
abbrev pub plain : ℕ → ℕ
plain byte = if byte == 110 then 10 else byte

-- what a reader makes of the text between the quotes of a label: the inverse of the escapes, by the format's own rule
abbrev pub unescaped : List ℕ → List ℕ
unescaped [] = []
unescaped (x ∷ []) = x ∷ []
unescaped (x ∷ y ∷ bytes) = if x == 92 then plain y ∷ unescaped bytes else x ∷ unescaped (y ∷ bytes)
