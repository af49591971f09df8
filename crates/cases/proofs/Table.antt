-- The table holds, by computation. Assumes nothing.
use mathlib.Core.Option.{bind}
use mathlib.Core.Path.{refl}
use Rattle.atomic.specs.Atomic.{met, told, read_atomic, write_atomic, swapped_of}
use Rattle.cases.specs.Question.{held, answers_in, end_at, reply}
use Rattle.cases.specs.Table.{table, StarredHold}
use Rattle.form.specs.Line.{verb_of}
use Rattle.form.specs.Range.{in_range, limited}
use Rattle.form.specs.Table.{forms, form_at}
use Rattle.laws.specs.Lists.{filled}
use Rattle.laws.specs.Tests.{◌and◌, ◌or◌, all_below}
use Rattle.operand.specs.Operand.{word}
use Rattle.fault.specs.Refusal.{up_to_lf, line_at}
use Rattle.line.specs.Row.{find_form, due_row, read_line}
use Rattle.parts.specs.Parts.{thread_stands, threads_stand, firsts_stand, atomic_stands, atomics_stand, cells_stand, parts_stand}
use Rattle.places.specs.Places.{place_stands}
use Rattle.refusal.specs.Refusal.{refusal_by}
use Rattle.rules.specs.Access.{slot_cell, found_by, accessed}
use Rattle.rules.specs.Calls.{goes_on, looks, swaps, closes, resumed, acted}
use Rattle.rules.specs.Log.{entry_of, next, through as stepped, start, ins, outs, with, seen}
use Rattle.rules.specs.Queue.{plain}
use Rattle.rules.specs.Step.{taken_by, refusal_of, decided_of, step_of, content_of}
use Rattle.digits.specs.Reading.{is_digit, digits, number, weight}
use Rattle.number.specs.Text.{decimal, number_text, last_digits, weight_text}
use Rattle.opening.specs.Opening.{weights_stand, given_room, statuses_room, unmoved, fresh, opened_of}
use Rattle.printed.specs.Printed.{spelled, field_text, ended_text, printed_text, answer_line, lines_text}
use Rattle.rank.specs.Rank.{slot_of, next_rank, free_status, full_status, lapped}
use Rattle.reported.specs.Report.{queue_lines, rank_lines, refused_lines, run_lines, run_of, reported, report_text}
use Rattle.run.specs.Run.{ran}
use Rattle.standing.specs.Stands.{in_shape, shape_stands, sizes_stand, stands}
use Rattle.texts.specs.Schedule.{lines_from, schedule_of, reads}
use Rattle.schedule.specs.Sections.{lines_past, through, sections, judged}
use Rattle.state.specs.State.{cells_of, row, with_row, place, with_place, atomic_at, with_atomic, first_of}
use Rattle.verbs.specs.Verbs.{among}
use Rattle.view.specs.View.{stamp_of, with_stamp, join_to, joined, view_stands}
use Rattle.writes.specs.History.{shown_by, found, newer, newest, record_stands, records_stand}
use Rattle.writes.specs.Records.{recorded}

pub starred_hold : StarredHold
unfolding table reply held answers_in end_at entry_of next stepped start with seen ins outs plain bind report_text reported run_lines run_of queue_lines rank_lines refused_lines ran spelled field_text ended_text printed_text answer_line lines_text decimal number_text last_digits weight_text lines_from schedule_of reads lines_past through sections judged verb_of in_range limited forms form_at word up_to_lf line_at find_form due_row read_line is_digit digits number weight opened_of fresh unmoved given_room statuses_room filled weights_stand step_of decided_of refusal_of refusal_by taken_by acted resumed looks swaps closes goes_on read_atomic write_atomic swapped_of met told joined join_to stamp_of with_stamp row with_row place with_place atomic_at with_atomic first_of cells_of slot_cell slot_of next_rank free_status full_status lapped found_by accessed recorded found shown_by newest newer among stands sizes_stand shape_stands in_shape parts_stand threads_stand thread_stands place_stands firsts_stand cells_stand atomics_stand atomic_stands view_stands records_stand record_stands all_below ◌and◌ ◌or◌ content_of
starred_hold = refl
