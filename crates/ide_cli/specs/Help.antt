-- Lines that ask for help.
use Rattle.std.specs.Prelude.{◌||◌, Any, Bool, IsTrue, List, codes, nat_eq}
use Rattle.std.specs.List.{starts_with}
use Rattle.std.specs.Str.{bytes_eq}
use Rattle.clap.specs.Walk.{Text}

-- a word that may ask for help, or for the version
abbrev pub is_help_word : Text → Bool
is_help_word word =
    bytes_eq word (codes "help") || (bytes_eq word (codes "--help") || (bytes_eq word (codes "--version")
    || (starts_with nat_eq word (codes "-h") || starts_with nat_eq word (codes "-V"))))

-- there is one on the line
abbrev pub AsksForHelp : List Text → Type 0
AsksForHelp line = Any (λ word. IsTrue (is_help_word word)) line
