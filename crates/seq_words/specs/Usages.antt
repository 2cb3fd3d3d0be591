-- What a command takes, as a simple command of clap, and what that finds in the words.
--
--   label_of name                the name of an argument, as its users know it
--   rule_of argument             one argument as a rule of clap
--   simple_command name usage    clap's command of this name with just these arguments, and nothing else set
--   texts words                  the words as bytes
--   rows_by command words        what the command finds in the words, the first of which is its name; None where it refuses them
--   text_of name rows            the text found for an argument
--   texts_of name rows           the texts found for a last argument
--   is_given name rows           the flag was found
use Rattle.std.specs.Prelude.{Bool, true, false, List, [], ◌∷◌, Option, Some, None, codes, String, string_bytes, map, unwrap_or, if◌then◌else◌}
use Rattle.std.specs.Str.{bytes_eq}
use Rattle.std.specs.declared.alloc.Global.{Global}
use Rattle.clap.specs.Words.{App, Kinds, Rule, Row, Text, new_app, new_rule, with_rule, first_of, all_of, fault_of, matches_of}
use Rattle.clap.specs.Lexer.{usize_max}
use Rattle.clap.specs.declared.builder.action.ArgAction.TheVariants.{Set, Append, SetTrue}
use Rattle.seq_words.specs.declared.usage.Name.{Name}
use Rattle.seq_words.specs.declared.usage.Argument.{Argument}

abbrev pub label_of : Name → Text
label_of Name.Least = codes "least"
label_of Name.Strict = codes "strict"
label_of Name.Budget = codes "budget"
label_of Name.Printer = codes "PRINTER"
label_of Name.Plan = codes "PLAN"
label_of Name.Stl = codes "STL"
label_of Name.K = codes "K"
label_of Name.N = codes "N"

-- `--name`
abbrev pub flag : Text → Rule
flag name = record (new_rule name) { long = Some name; action = Some SetTrue }

-- `--name TEXT`
abbrev pub option_of_text : Text → Rule
option_of_text name = record (new_rule name) { long = Some name; action = Some Set }

-- a required positional of one text
abbrev pub positional : Text → Rule
positional name = record (new_rule name) { required = true; action = Some Set }

-- a required last positional of one or more texts
abbrev pub positionals : Text → Rule
positionals name = record (new_rule name) {
  required = true;
  action = Some Append;
  range = Some (record { start_inclusive = 1; end_inclusive = usize_max });
}

abbrev pub rule_of : Argument → Rule
rule_of (Argument.Flag name) = flag (label_of name)
rule_of (Argument.Value name) = option_of_text (label_of name)
rule_of (Argument.One name) = positional (label_of name)
rule_of (Argument.Several name) = positionals (label_of name)

abbrev pub with_arguments : App → List Argument → App
with_arguments command [] = command
with_arguments command (argument ∷ usage) = with_arguments (with_rule command (rule_of argument)) usage

unfoldable pub simple_command : Text → List Argument → App
simple_command name usage = with_arguments (new_app name) usage

abbrev pub texts : List (String Global) → List Text
texts words = map (λ (w : String Global). string_bytes w) words

-- clap has no fault to find
abbrev pub is_clean : Kinds → Bool
is_clean [] = true
is_clean (kind ∷ kinds) = false

unfoldable pub rows_by : App → List Text → Option (List Row)
rows_by command words = if is_clean (fault_of command words) then Some (matches_of command words) else None

-- clap finds a text for each required argument, so the empty one stands only for an option that isn't given
abbrev pub text_of : Name → List Row → Text
text_of name rows = unwrap_or (first_of (label_of name) rows) []

abbrev pub texts_of : Name → List Row → List Text
texts_of name rows = unwrap_or (all_of (label_of name) rows) []

-- clap notes a flag that was given as the text `true`
abbrev pub is_given : Name → List Row → Bool
is_given name rows = bytes_eq (text_of name rows) (codes "true")
