-- Errors of other crates as errors of this one: running out of memory stays that, and every other refusal is a bad pattern.
use Rattle.regex_syntax.specs.declared.error.ErrorKind.{ErrorKind}
use Rattle.regex_syntax.specs.declared.error.ErrorKind.TheVariants as parser
use Rattle.regex_compile.specs.declared.error.Error.{Error}
use Rattle.regex_compile.specs.declared.error.Error.TheVariants as compiler
use Rattle.regex_nfa.specs.declared.build.BuildError as tables
use Rattle.regex_nfa.specs.declared.build.BuildError.TheVariants as table
use Rattle.am_matcher.specs.declared.compiled.BuildError.{BuildError}
use Rattle.am_matcher.specs.declared.compiled.BuildError.TheVariants as build
use Rattle.am_matcher.specs.declared.re2.translation.Re2Error.{Re2Error}
use Rattle.am_matcher.specs.declared.re2.translation.Re2Error.TheVariants as re2
use Rattle.am_matcher.specs.declared.filter.FilterError.{FilterError}
use Rattle.am_matcher.specs.declared.filter.FilterError.TheVariants as filter

-- the filter's error for an error of its matcher
abbrev pub of_build : BuildError → FilterError
of_build build.BadPattern = filter.BadPattern
of_build build.Memory = filter.Memory

-- the error for one of the parser of patterns
abbrev pub of_parser : ErrorKind → BuildError
of_parser parser.OutOfMemory = build.Memory
of_parser _ = build.BadPattern

-- the error for one of the compiler of patterns
abbrev pub of_compiler : Error → BuildError
of_compiler compiler.OutOfMemory = build.Memory
of_compiler _ = build.BadPattern

-- the error for one of the maker of tables
abbrev pub of_tables : tables.BuildError → BuildError
of_tables table.OutOfMemory = build.Memory
of_tables table.Malformed = build.BadPattern

-- the error for one of the translation of RE2
abbrev pub of_re2 : Re2Error → BuildError
of_re2 (re2.Refused at) = build.BadPattern
of_re2 re2.Memory = build.Memory
