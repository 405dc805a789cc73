-- What is written is read again: the version, the metric, the variables and the state.
use Rattle.std.proofs.Common.{◌≡◌, ℕ, ◌+◌, ◌-◌, ◌^◌, ◌<◌, Bool, true, false, not, ◌&&◌, ◌||◌, List, [], ◌∷◌, ◌++◌, length, map, get_or, Option, refl, sym, ap, ◌∙◌, subst, arith, length-append}
use Rattle.std.specs.Prelude.{codes, slice_index, if◌then◌else◌}
use Rattle.std.specs.List.{All, flat_map, enumerate_from}
use Rattle.std.proofs.lemmas.Bool.{lt-ltb, ne_eqb}
use Rattle.std.proofs.lemmas.List.Concat.{flat_map_single}
use Rattle.std.proofs.lemmas.List.FromFn.{length-enumerate_from}
use Rattle.sas_task.specs.declared.parts.Variable.{Variable}
use Rattle.sas_task.specs.Output.{Line, numeral, number_or_none, counted, version_lines, metric_lines, variable_lines, state_lines}
use Rattle.sas_task.specs.Task.{Task}
use Rattle.sas_task.specs.Valid.{IsValue, IsValidVariable}
use Rattle.sas_reader.specs.Contexts.{is_value}
use Rattle.sas_reader.specs.Forms.{◌>>=◌, ◌>>◌, Form, passing, given, fixed, next_line, listed}
use Rattle.sas_reader.specs.Numbers.{number_line, at_least, number_or_none_line}
use Rattle.sas_reader.specs.Words.{is_same, is_name}
use Rattle.sas_reader.specs.Sections.{version, metric, variable_name, fact_name, variable, variables, state_value, state}
use Rattle.sas_reader.proofs.Again.{Again, again_then, again_next, again_given, again_passing, again_line, again_fixed, again_number, again_at_least, again_number_or_none, lines_from, again_listed}
use Rattle.sas_reader.proofs.AgainPairs.{Fits, value_fits, in_all, at_place, same_lines}
use Rattle.lists.specs.Names.{IsName}
use Rattle.lists.proofs.Names.{name_parts}

pub again_version : Again version tt version_lines
unfolding version
again_version =
    again_next (fixed (codes "begin_version") >> fixed (codes "3")) (fixed (codes "end_version")) tt tt (codes "begin_version" ∷ codes "3" ∷ []) (codes "end_version" ∷ [])
    (again_next (fixed (codes "begin_version")) (fixed (codes "3")) tt tt (codes "begin_version" ∷ []) (codes "3" ∷ []) (again_fixed (codes "begin_version")) (again_fixed (codes "3"))) (again_fixed (codes "end_version"))

pub again_metric : (m : Bool) → Again metric m (metric_lines m)
unfolding metric
again_metric m =
    let test : Line → Bool = λ l. is_same l (codes "1") || is_same l (codes "0") in
    let value : Line → Bool = λ l. is_same l (codes "1") in
    let flag : Line = if m then codes "1" else codes "0" in
    let last : Bool → Form Bool = λ metric. fixed (codes "end_metric") >> given metric in
    again_then (fixed (codes "begin_metric") >> next_line) (λ l. passing (test l) (value l) >>= last) flag m (codes "begin_metric" ∷ flag ∷ []) (codes "end_metric" ∷ [])
    (again_next (fixed (codes "begin_metric")) next_line tt flag (codes "begin_metric" ∷ []) (flag ∷ []) (again_fixed (codes "begin_metric")) (again_line flag))
    (again_then (passing (test flag) (value flag)) last (value flag) m [] (codes "end_metric" ∷ []) (again_passing (test flag) (value flag) (lawful m))
    (subst (λ b. Again (last b) m (codes "end_metric" ∷ [])) (sym (is m)) (again_next (fixed (codes "end_metric")) (given m) tt m (codes "end_metric" ∷ []) [] (again_fixed (codes "end_metric")) (again_given m))))
  where
    lawful : (m : Bool) → (is_same (if m then codes "1" else codes "0") (codes "1") || is_same (if m then codes "1" else codes "0") (codes "0")) ≡ true
    lawful true = refl
    lawful false = refl

    is : (m : Bool) → is_same (if m then codes "1" else codes "0") (codes "1") ≡ m
    is true = refl
    is false = refl

pub name_passes : (bytes : Line) → IsName bytes → is_name bytes ≡ true
name_passes bytes is =
    let parts = name_parts bytes is in
    (λ i. (lt-ltb 0 (length bytes) parts.written i && not (ne_eqb (get_or bytes 0 0) 32 parts.first i)) && not (ne_eqb (get_or bytes (length bytes - 1) 0) 32 parts.last i))

pub again_fact_name : (name : Line) → IsName name → Again fact_name name (name ∷ [])
unfolding fact_name
again_fact_name name is = again_then next_line (λ l. passing (is_name l) l) name name (name ∷ []) [] (again_line name) (again_passing (is_name name) name (name_passes name is))

pub again_variable : (n : ℕ) (v : Variable) → IsValidVariable v → length v.facts < 2 ^ 64 → Again (variable n) v (variable_lines (n, v))
unfolding variable variable_name
again_variable n v valid small =
    let var-line = codes "var" ++ numeral n in
    let last : Option ℕ → List Line → Form Variable = λ layer facts. fixed (codes "end_variable") >> given (record { layer = layer; facts = facts }) in
    let to-facts : Option ℕ → ℕ → Form Variable = λ layer range. listed (λ _. fact_name) range [] >>= last layer in
    let to-range : Option ℕ → Form Variable = λ layer. at_least 1 >>= to-facts layer in
    let head : Form (Unit {0}) = fixed (codes "begin_variable") >> fixed var-line in
    let facts-lines = flat_map (λ (fact : Line). fact ∷ []) v.facts in
    again_then (head >> number_or_none_line) to-range v.layer v (codes "begin_variable" ∷ var-line ∷ number_or_none v.layer ∷ []) (numeral (length v.facts) ∷ (facts-lines ++ codes "end_variable" ∷ []))
    (again_next head number_or_none_line tt v.layer (codes "begin_variable" ∷ var-line ∷ []) (number_or_none v.layer ∷ [])
    (again_next (fixed (codes "begin_variable")) (fixed var-line) tt tt (codes "begin_variable" ∷ []) (var-line ∷ []) (again_fixed (codes "begin_variable")) (again_fixed var-line))
    (again_number_or_none v.layer valid.layer))
    (again_then (at_least 1) (to-facts v.layer) (length v.facts) v (numeral (length v.facts) ∷ []) (facts-lines ++ codes "end_variable" ∷ []) (again_at_least 1 (length v.facts) small valid.has_value)
    (again_then (listed (λ _. fact_name) (length v.facts) []) (last v.layer) v.facts v facts-lines (codes "end_variable" ∷ [])
    (subst (Again (listed (λ _. fact_name) (length v.facts) []) v.facts) (same_lines (λ (fact : Line). fact ∷ []) [] v.facts)
    (again_listed (λ _. fact_name) (λ _ fact. fact ∷ []) v.facts (λ before fact more is. again_fact_name fact (in_all IsName before fact more v.facts is valid.names)) v.facts [] refl))
    (again_next (fixed (codes "end_variable")) (given v) tt v (codes "end_variable" ∷ []) [] (again_fixed (codes "end_variable")) (again_given v))))

numbered_lines : (before more : List Variable) → lines_from (λ before v. variable_lines (length before, v)) before more ≡ flat_map variable_lines (enumerate_from (length before) more)
numbered_lines before [] = refl
numbered_lines before (v ∷ more) =
    let next : length (before ++ v ∷ []) ≡ length before + 1 = length-append before (v ∷ []) in
    ap (λ l. variable_lines (length before, v) ++ l) (numbered_lines (before ++ v ∷ []) more ∙ ap (λ n. flat_map variable_lines (enumerate_from n more)) next)

pub again_variables : (vs : List Variable) → length vs < 2 ^ 64 → All (λ v. IsValidVariable v × (length v.facts < 2 ^ 64)) vs → Again variables vs (counted variable_lines (enumerate_from 0 vs))
unfolding variables
again_variables vs small are =
    let one : List Variable → Form Variable = λ before. variable (length before) in
    let body : List Line = flat_map variable_lines (enumerate_from 0 vs) in
    subst (λ n. Again (number_line >>= λ count. listed one count []) vs (numeral n ∷ body)) (sym (length-enumerate_from 0 vs))
    (again_then number_line (λ count. listed one count []) (length vs) vs (numeral (length vs) ∷ []) body (again_number (length vs) small)
    (subst (Again (listed one (length vs) []) vs) (numbered_lines [] vs)
    (again_listed one (λ before v. variable_lines (length before, v)) vs
    (λ before v more is. let good = in_all (λ v. IsValidVariable v × (length v.facts < 2 ^ 64)) before v more vs is are in again_variable (length before) v good.0 good.1) vs [] refl)))

again_state_value : (task : Task) (var val : ℕ) → Fits task → IsValue task var val → Again (state_value task var) val (numeral val ∷ [])
unfolding state_value
again_state_value task var val fits is =
    let k = value_fits task var val fits is in
    again_then number_line (λ v. passing (is_value task var v) v) val val (numeral val ∷ []) [] (again_number val k.1) (again_passing (is_value task var val) val k.2)

pub again_state : (task : Task) (values : List ℕ) → Fits task → length values ≡ length task.variables → ((var : ℕ) → var < length values → IsValue task var (slice_index values var)) → Again (state task) values (state_lines values)
unfolding state
again_state task values fits len are =
    let one : List ℕ → Form ℕ = λ before. state_value task (length before) in
    let last : List ℕ → Form (List ℕ) = λ values. fixed (codes "end_state") >> given values in
    let items : Again (listed one (length values) []) values (map numeral values) =
    subst (Again (listed one (length values) []) values) (same_lines (λ val. numeral val ∷ []) [] values ∙ flat_map_single numeral values)
    (again_listed one (λ _ val. numeral val ∷ []) values
    (λ before val more is. again_state_value task (length before) val fits (subst (IsValue task (length before)) (at_place before val more values 0 is)
    (are (length before) (let whole : length (before ++ val ∷ more) ≡ length values = ap length is in omega (arith, whole, length-append before (val ∷ more)))))) values [] refl) in
    again_then (fixed (codes "begin_state") >> listed one (length task.variables) []) last values values (codes "begin_state" ∷ map numeral values) (codes "end_state" ∷ [])
    (again_next (fixed (codes "begin_state")) (listed one (length task.variables) []) tt values (codes "begin_state" ∷ []) (map numeral values) (again_fixed (codes "begin_state")) (subst (λ n. Again (listed one n []) values (map numeral values)) len items))
    (again_next (fixed (codes "end_state")) (given values) tt values (codes "end_state" ∷ []) [] (again_fixed (codes "end_state")) (again_given values))
