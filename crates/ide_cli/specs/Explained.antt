-- What names of refusals and of faults mean.
use Rattle.std.specs.Prelude.{◌++◌, ℕ, List, [], codes, if◌then◌else◌}
use Rattle.std.specs.Str.{bytes_eq}
use Rattle.ide_cli.specs.declared.explain.TheConstants.{E1, E2, E3, E4, E5, E6, E7, E8, E9, E10, E11, E12, E13, E14, E15, E16}
use Rattle.ide_cli.specs.declared.explain.TheConstants.{F1, F2, F3, F4, F5, F6, F7, F8, F9, F10}

-- the text of that name: none, where there is no such name
abbrev pub meaning_of : List ℕ → List ℕ
meaning_of name =
    if bytes_eq name (codes "E1") then E1.now else (
    if bytes_eq name (codes "E2") then E2.now else (
    if bytes_eq name (codes "E3") then E3.now else (
    if bytes_eq name (codes "E4") then E4.now else (
    if bytes_eq name (codes "E5") then E5.now else (
    if bytes_eq name (codes "E6") then E6.now else (
    if bytes_eq name (codes "E7") then E7.now else (
    if bytes_eq name (codes "E8") then E8.now else (
    if bytes_eq name (codes "E9") then E9.now else (
    if bytes_eq name (codes "E10") then E10.now else (
    if bytes_eq name (codes "E11") then E11.now else (
    if bytes_eq name (codes "E12") then E12.now else (
    if bytes_eq name (codes "E13") then E13.now else (
    if bytes_eq name (codes "E14") then E14.now else (
    if bytes_eq name (codes "E15") then E15.now else (
    if bytes_eq name (codes "E16") then E16.now else (
    if bytes_eq name (codes "F1") then F1.now else (
    if bytes_eq name (codes "F2") then F2.now else (
    if bytes_eq name (codes "F3") then F3.now else (
    if bytes_eq name (codes "F4") then F4.now else (
    if bytes_eq name (codes "F5") then F5.now else (
    if bytes_eq name (codes "F6") then F6.now else (
    if bytes_eq name (codes "F7") then F7.now else (
    if bytes_eq name (codes "F8") then F8.now else (
    if bytes_eq name (codes "F9") then F9.now else (
    if bytes_eq name (codes "F10") then F10.now else (
    []))))))))))))))))))))))))))

-- what is printed of the name
abbrev pub explained : List ℕ → List ℕ
explained name = meaning_of name ++ codes "\n"
