-- Laws that know nothing of the table: tests, lists, counts, sums, scans, the ring, the port's numbers, decimal digits, signs.
pub mod Bools
pub mod Lists
pub mod Counts
pub mod Sums
pub mod Scans
pub mod Ring
pub mod Numbers
pub mod Digits
pub mod Signs
