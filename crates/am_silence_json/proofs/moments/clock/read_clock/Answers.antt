use Rattle.std.proofs.Common.{rules, ◌≡◌, ◌<◌, ◌+◌, ◌*◌, ◌/◌, ◌%◌, refl, arith}
use Rattle.am_silence_json.proofs.moments.clock.read_clock.Goals as goal

pub returns-in_err-century-clause-only : goal.returns-in_err-century-clause-only
returns-in_err-century-clause-only c = λ k h. cc (c.in_err-century.ensures.only _ h.century)

pub returns-in_err-year-clause-only : goal.returns-in_err-year-clause-only
returns-in_err-year-clause-only c = λ k h. cc (c.in_err-year.ensures.only _ h.year)

pub returns-in_err-month-clause-only : goal.returns-in_err-month-clause-only
returns-in_err-month-clause-only c = λ k h. cc (c.in_err-month.ensures.only _ h.month)

pub returns-in_err-day-clause-only : goal.returns-in_err-day-clause-only
returns-in_err-day-clause-only c = λ k h. cc (c.in_err-day.ensures.only _ h.day)

pub returns-in_err-hour-clause-only : goal.returns-in_err-hour-clause-only
returns-in_err-hour-clause-only c = λ k h. cc (c.in_err-hour.ensures.only _ h.hour)

pub returns-in_err-minute-clause-only : goal.returns-in_err-minute-clause-only
returns-in_err-minute-clause-only c = λ k h. cc (c.in_err-minute.ensures.only _ h.minute)

pub returns-in_err-second-clause-only : goal.returns-in_err-second-clause-only
returns-in_err-second-clause-only c = λ k h. cc (c.in_err-second.ensures.only _ h.second)

pub returns-clause-only : goal.returns-clause-only
returns-clause-only c = λ k h.
    let century : c.in_ok-century.century ≡ k.year / 100 = cc (c.in_ok-century.ensures.only _ h.century) in
    let year : c.in_ok-year.year ≡ k.year % 100 = cc (c.in_ok-year.ensures.only _ h.year) in
    let whole : c.from.result * 100 + c.from-2.result ≡ k.year = omega (arith, c.from.ensures, c.from-2.ensures, century, year) in
    let month : c.in_ok-month.month ≡ k.month = cc (c.in_ok-month.ensures.only _ h.month) in
    let day : c.in_ok-day.day ≡ k.day = cc (c.in_ok-day.ensures.only _ h.day) in
    let hour : c.in_ok-hour.hour ≡ k.hour = cc (c.in_ok-hour.ensures.only _ h.hour) in
    let minute : c.in_ok-minute.minute ≡ k.minute = cc (c.in_ok-minute.ensures.only _ h.minute) in
    let second : c.in_ok-second.second ≡ k.second = cc (c.in_ok-second.ensures.only _ h.second) in
    rw (whole, month, day, hour, minute, second) refl

pub returns-clause-value : goal.returns-clause-value
returns-clause-value c =
    let below : c.from-2.result < 100 = omega (arith, c.from-2.ensures, c.in_ok-year.ensures.bound) in
    let hundreds : (c.from.result * 100 + c.from-2.result) / 100 ≡ c.in_ok-century.century = omega (arith, c.from.ensures, below) in
    let rest : (c.from.result * 100 + c.from-2.result) % 100 ≡ c.in_ok-year.year = omega (arith, c.from-2.ensures, below) in
    record {
      marks = search rules;
      century = rw hundreds c.in_ok-century.ensures.value;
      year = rw rest c.in_ok-year.ensures.value;
      month = c.in_ok-month.ensures.value;
      day = c.in_ok-day.ensures.value;
      hour = c.in_ok-hour.ensures.value;
      minute = c.in_ok-minute.ensures.value;
      second = c.in_ok-second.ensures.value;
    }
